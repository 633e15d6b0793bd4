-- The invariant: what is left to look at answers for the whole.
use borrow.Author.Rules.{rules}
use mathlib.Core.Path.{◌≡◌}
use Prim.Native.Nat.{◌-◌, ◌≤◌}
use native.Mathlib.Nat.{sub-zero}
use Rattle.names.specs.Strings.{zero_from}
use Rattle.names.proofs.Zeros.{zero_here, zero_more, zero_none}
use Rattle.names.proofs.strings.find_end.Statement.{statement}
use Rattle.names.proofs.strings.find_end.Tie as tie

abbrev invariant-loop-k : tie.invariant-loop-k
invariant-loop-k s at left k₀ k = (k ≤ left) × (zero_from s at (left - k) k ≡ zero_from s at left 0)

abbrev decreases-loop-k : tie.decreases-loop-k
decreases-loop-k s at left k₀ k = left - k

pub find_end_spec : {M : Type 1} → statement M
find_end_spec =
    tie.close
    (tie.spec
    invariant-loop-k
    decreases-loop-k
    (λ c. (search rules, simp sub-zero))  -- loop-holds
    (λ c. search rules)  -- add-if1
    (λ c. search rules)  -- shared-slice-read-if1
    (λ c. search zero_here)  -- returns
    (λ c. search rules)  -- add-k
    (λ c. search rules)  -- loop-less
    (λ c. search (zero_more, rules))  -- loop-again
    (λ c. search zero_none))  -- returns-2

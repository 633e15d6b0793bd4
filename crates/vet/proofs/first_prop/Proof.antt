-- The invariant: the properties that are left answer for all of them.
use mathlib.Core.Path.{◌≡◌}
use Prim.Native.Nat.{◌-◌}
use native.Mathlib.Nat.{sub-zero}
use Rattle.vet.specs.First.{first_fault}
use Rattle.vet.specs.Vet.{prop_fault}
use Rattle.vet.proofs.FirstFault.{loop_ends, loop_stops, loop_goes_on}
use borrow.Author.Rules.{rules}
use Rattle.vet.proofs.first_prop.Statement.{statement}
use Rattle.vet.proofs.first_prop.Tie as tie

abbrev invariant-loop-i : tie.invariant-loop-i
invariant-loop-i s rec count i₀ i = first_fault (prop_fault s rec) (count - i) i ≡ first_fault (prop_fault s rec) count 0

abbrev decreases-loop-i : tie.decreases-loop-i
decreases-loop-i s rec count i₀ i = count - i

pub first_prop_spec : {M : Type 1} → statement M
first_prop_spec =
    tie.close
    (tie.spec
    invariant-loop-i
    decreases-loop-i
    (λ c. simp sub-zero)  -- loop-holds
    (λ c κs. search rules)  -- prop_fault-requires
    (λ c. search rules)  -- cast-t7
    (λ c. search loop_stops)  -- returns
    (λ c. search rules)  -- add-i
    (λ c. search rules)  -- loop-less
    (λ c. search loop_goes_on)  -- loop-again
    (λ c. search loop_ends))  -- returns-2

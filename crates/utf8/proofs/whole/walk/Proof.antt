-- The answer for the text is, at each turn, the answer for what is left of it.
use Prim.Native.Nat.{◌-◌}
use lib.ListN.{length}
use Rattle.utf8.specs.Decode.{decoded, checked}
use Rattle.utf8.proofs.Rest.{Answer, answer_all, answer_next, answer_end, answer_bad}
use Rattle.utf8.proofs.Walk.{step_less}
use borrow.Author.Rules.{rules}
use Rattle.utf8.proofs.whole.walk.Statement.{statement}
use Rattle.utf8.proofs.whole.walk.Tie as tie

abbrev invariant-loop-code : tie.invariant-loop-code
invariant-loop-code text i₀ i = Answer text i (checked (decoded text))

abbrev decreases-loop-code : tie.decreases-loop-code
decreases-loop-code text i₀ i = length text - i

pub walk_spec : {M : Type 1} → statement M
walk_spec =
    tie.close
    (tie.spec
    invariant-loop-code
    decreases-loop-code
    (λ c. search answer_all)  -- loop-holds
    (λ c κs. search rules)  -- any_step-requires
    (λ c. search rules)  -- enum-known-here
    (λ c. search step_less)  -- loop-less
    (λ c. search answer_next)  -- loop-again
    (λ c. search rules)  -- enum-told
    (λ c. search answer_end)  -- returns
    (λ c. search rules)  -- enum-known-here-2
    (λ c. search answer_bad))  -- returns-2

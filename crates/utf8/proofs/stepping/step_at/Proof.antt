-- An ASCII byte is a step by the table, and every other step is the slow one's.
use Rattle.utf8.proofs.Steps.{step_ascii}
use borrow.Author.Rules.{rules}
use Rattle.utf8.proofs.stepping.step_at.Statement.{statement}
use Rattle.utf8.proofs.stepping.step_at.Tie as tie

pub step_at_spec : {M : Type 1} → statement M
step_at_spec =
    tie.close
    (tie.spec
    (λ c. search rules)  -- shared-slice-read-b
    (λ c. search rules)  -- cast-t9
    (λ c. search rules)  -- add-t11
    (λ c. search step_ascii)  -- returns
    (λ c κs. search rules)  -- any_step-requires
    (λ c. search rules))  -- returns-2

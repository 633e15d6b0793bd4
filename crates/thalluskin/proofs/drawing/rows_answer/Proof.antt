use Rattle.thalluskin.specs.Drawing.{rows_answer}
use Rattle.thalluskin.proofs.Answers.{matched}
use borrow.Author.Rules.{rules}
use Rattle.thalluskin.proofs.drawing.rows_answer.Statement.{statement}
use Rattle.thalluskin.proofs.drawing.rows_answer.Tie as tie

pub rows_answer_spec : {M : Type 1} → statement M
rows_answer_spec =
    tie.close
    (tie.spec
    (λ c. search rules)  -- enum-known-drawn
    (λ c. search rules)  -- enum-known-drawn-2
    (λ c. search rules)  -- cast-t5
    (λ c. search (matched rows_answer))  -- returns
    (λ c. search (matched rows_answer)))  -- returns-2

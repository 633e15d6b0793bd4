use Rattle.thalluskin.specs.Drawing.{unpack_answer}
use Rattle.thalluskin.proofs.Answers.{matched}
use borrow.Author.Rules.{rules}
use Rattle.thalluskin.proofs.drawing.unpack_answer.Statement.{statement}
use Rattle.thalluskin.proofs.drawing.unpack_answer.Tie as tie

pub unpack_answer_spec : {M : Type 1} → statement M
unpack_answer_spec =
    tie.close
    (tie.spec
    (λ c. search rules)  -- enum-known-unpacked
    (λ c. search rules)  -- enum-known-unpacked-2
    (λ c. search rules)  -- cast-t5
    (λ c. search (matched unpack_answer))  -- returns
    (λ c. search (matched unpack_answer)))  -- returns-2

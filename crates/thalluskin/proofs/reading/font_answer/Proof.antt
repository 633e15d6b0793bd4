use Rattle.thalluskin.specs.Reading.{font_answer}
use Rattle.thalluskin.proofs.Answers.{matched}
use borrow.Author.Rules.{rules}
use Rattle.thalluskin.proofs.reading.font_answer.Statement.{statement}
use Rattle.thalluskin.proofs.reading.font_answer.Tie as tie

pub font_answer_spec : {M : Type 1} → statement M
font_answer_spec =
    tie.close
    (tie.spec
    (λ c. search rules)  -- enum-known-loaded
    (λ c. search rules)  -- enum-known-loaded-2
    (λ c. search rules)  -- cast-t5
    (λ c κs. search rules)  -- blank-requires
    (λ c. search (matched font_answer))  -- returns
    (λ c. search (matched font_answer, c.blank.ensures)))  -- returns-2

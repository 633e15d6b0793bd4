use Rattle.thalluskin.specs.Reading.{font_answer}
use Rattle.thalluskin.proofs.Answers.{called}
use borrow.Author.Rules.{rules}
use Rattle.thalluskin.proofs.reading.thalluskin_load.Statement.{statement}
use Rattle.thalluskin.proofs.reading.thalluskin_load.Tie as tie

pub thalluskin_load_spec : {M : Type 1} → statement M
thalluskin_load_spec =
    tie.close
    (tie.spec
    (λ c κs. search rules)  -- load_in-requires
    (λ c κs. search rules)  -- font_answer-requires
    (λ c. search (called font_answer)))  -- returns

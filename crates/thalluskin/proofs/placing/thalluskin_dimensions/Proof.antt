use Rattle.thalluskin.specs.Placing.{extent_answer}
use Rattle.thalluskin.proofs.Answers.{call_matched}
use borrow.Author.Rules.{rules}
use Rattle.thalluskin.proofs.placing.thalluskin_dimensions.Statement.{statement}
use Rattle.thalluskin.proofs.placing.thalluskin_dimensions.Tie as tie

pub thalluskin_dimensions_spec : {M : Type 1} → statement M
thalluskin_dimensions_spec =
    tie.close
    (tie.spec
    (λ c κs. search rules)  -- dimensions-requires
    (λ c. search rules)  -- enum-known-answer
    (λ c. search rules)  -- enum-known-answer-2
    (λ c. search rules)  -- cast-t7
    (λ c. search (call_matched extent_answer))  -- returns
    (λ c. search (call_matched extent_answer)))  -- returns-2

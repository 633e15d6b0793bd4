use Rattle.thalluskin.specs.Reading.{name_answer}
use Rattle.thalluskin.proofs.Answers.{call_matched}
use borrow.Author.Rules.{rules}
use Rattle.thalluskin.proofs.reading.thalluskin_name.Statement.{statement}
use Rattle.thalluskin.proofs.reading.thalluskin_name.Tie as tie

pub thalluskin_name_spec : {M : Type 1} → statement M
thalluskin_name_spec =
    tie.close
    (tie.spec
    (λ c κs. search rules)  -- get_name-requires
    (λ c. search rules)  -- enum-known-answer
    (λ c. search rules)  -- enum-known-answer-2
    (λ c. search rules)  -- cast-t8
    (λ c κs. search rules)  -- no_span-requires
    (λ c. search (call_matched name_answer))  -- returns
    (λ c. search (call_matched name_answer, c.no_span.ensures)))  -- returns-2

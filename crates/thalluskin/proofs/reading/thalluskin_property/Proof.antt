use Rattle.thalluskin.specs.Reading.{property_answer}
use Rattle.reads.proofs.Places.{known}
use Rattle.thalluskin.proofs.Answers.{call_matched}
use borrow.Author.Rules.{rules}
use Rattle.thalluskin.proofs.reading.thalluskin_property.Statement.{statement}
use Rattle.thalluskin.proofs.reading.thalluskin_property.Tie as tie

pub thalluskin_property_spec : {M : Type 1} → statement M
thalluskin_property_spec =
    tie.close
    (tie.spec
    (λ c κs. search rules)  -- prop_at-requires
    (λ c. search rules)  -- enum-known-answer
    (λ c κs. search rules)  -- prop_answer-requires
    (λ c. search rules)  -- enum-known-answer-2
    (λ c. search rules)  -- cast-t8
    (λ c κs. search rules)  -- no_span-requires
    (λ c κs. search rules)  -- no_span-requires-2
    (λ c. search (call_matched property_answer))  -- returns
    (λ c. search (call_matched property_answer, c.no_span-in-Refused.ensures, (known tie.After-no_span (search)).no_span.ensures)))  -- returns-2

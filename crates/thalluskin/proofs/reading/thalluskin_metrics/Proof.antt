use Rattle.thalluskin.specs.Reading.{metrics_answer}
use Rattle.thalluskin.proofs.Answers.{call_matched}
use borrow.Author.Rules.{rules}
use Rattle.thalluskin.proofs.reading.thalluskin_metrics.Statement.{statement}
use Rattle.thalluskin.proofs.reading.thalluskin_metrics.Tie as tie

pub thalluskin_metrics_spec : {M : Type 1} → statement M
thalluskin_metrics_spec =
    tie.close
    (tie.spec
    (λ c κs. search rules)  -- get_metrics-requires
    (λ c. search rules)  -- enum-known-answer
    (λ c. search rules)  -- enum-known-answer-2
    (λ c. search rules)  -- cast-t8
    (λ c κs. search rules)  -- no_metrics-requires
    (λ c. search (call_matched metrics_answer))  -- returns
    (λ c. search (call_matched metrics_answer, c.no_metrics.ensures)))  -- returns-2

use borrow.Author.Rules.{rules}
use Rattle.metrics.proofs.Measuring.{narrow_is}
use Rattle.metrics.proofs.narrow_inside.Statement.{statement}
use Rattle.metrics.proofs.narrow_inside.Tie as tie

pub narrow_inside_spec : {M : Type 1} → statement M
narrow_inside_spec =
    tie.close
    (tie.spec
    (λ c. search rules)  -- shared-slice-read-metric-of
    (λ c κs. search rules)  -- metric_of-requires
    (λ c. search rules)  -- add-metric-of
    (λ c. search rules)  -- shared-slice-read-metric-of-2
    (λ c κs. search rules)  -- metric_of-requires-2
    (λ c. search rules)  -- add-metric-of-2
    (λ c. search rules)  -- shared-slice-read-metric-of-3
    (λ c κs. search rules)  -- metric_of-requires-3
    (λ c. search rules)  -- add-metric-of-3
    (λ c. search rules)  -- shared-slice-read-metric-of-4
    (λ c κs. search rules)  -- metric_of-requires-4
    (λ c. search rules)  -- add-metric-of-4
    (λ c. search rules)  -- shared-slice-read-metric-of-5
    (λ c κs. search rules)  -- metric_of-requires-5
    (λ c. search narrow_is))  -- returns

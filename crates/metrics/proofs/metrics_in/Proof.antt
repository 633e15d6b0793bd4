use borrow.Author.Rules.{rules}
use Rattle.metrics.proofs.Measuring.{count_10, offset_fits, measured_there}
use Rattle.metrics.proofs.metrics_in.Statement.{statement}
use Rattle.metrics.proofs.metrics_in.Tie as tie

pub metrics_in_spec : {M : Type 1} → statement M
metrics_in_spec =
    tie.close
    (tie.spec
    (λ c. search rules)  -- cast-i
    (λ c. search count_10)  -- returns
    (λ c κs. search rules)  -- metric_bytes-requires
    (λ c. search rules)  -- cast-offset
    (λ c. search offset_fits)  -- mul-offset
    (λ c κs. search rules)  -- measured_at-requires
    (λ c. search measured_there))  -- returns-2

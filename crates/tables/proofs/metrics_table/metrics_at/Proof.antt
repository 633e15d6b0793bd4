use borrow.Author.Rules.{rules}
use Rattle.tables.proofs.Reading.{metrics_past, metrics_inside}
use Rattle.tables.proofs.Sizes.{metrics_small, metrics_end_small}
use Rattle.tables.proofs.metrics_table.metrics_at.Statement.{statement}
use Rattle.tables.proofs.metrics_table.metrics_at.Tie as tie

pub metrics_at_spec : {M : Type 1} → statement M
metrics_at_spec =
    tie.close
    (tie.spec
    (λ c κs. search rules)  -- big_bit-requires
    (λ c κs. search rules)  -- compressed_bit-requires
    (λ c κs. search rules)  -- metric_count-requires
    (λ c κs. search rules)  -- metrics_from-requires
    (λ c. search rules)  -- add-records
    (λ c κs. search rules)  -- metric_bytes-requires
    (λ c. search rules)  -- cast-if1
    (λ c. search metrics_small)  -- mul-if1
    (λ c. search metrics_end_small)  -- add-if1
    (λ c. search metrics_past)  -- returns
    (λ c. search metrics_inside))  -- returns-2

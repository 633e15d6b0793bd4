use borrow.Author.Rules.{rules}
use Rattle.tables.proofs.Measured.{narrow}
use Rattle.tables.proofs.measures.narrow_at.Statement.{statement}
use Rattle.tables.proofs.measures.narrow_at.Tie as tie

pub narrow_at_spec : {M : Type 1} → statement M
narrow_at_spec =
    tie.close
    (tie.spec
    (λ c κs. search rules)  -- reach-requires
    (λ c κs. search rules)  -- byte_at-requires
    (λ c κs. search rules)  -- metric_of-requires
    (λ c κs. search rules)  -- byte_at-requires-2
    (λ c κs. search rules)  -- metric_of-requires-2
    (λ c κs. search rules)  -- byte_at-requires-3
    (λ c κs. search rules)  -- metric_of-requires-3
    (λ c κs. search rules)  -- byte_at-requires-4
    (λ c κs. search rules)  -- metric_of-requires-4
    (λ c κs. search rules)  -- byte_at-requires-5
    (λ c κs. search rules)  -- metric_of-requires-5
    (λ c. search narrow))  -- returns

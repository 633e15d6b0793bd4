use borrow.Author.Rules.{rules}
use Rattle.metrics.proofs.Measuring.{five_inside, start_fits, narrow_there}
use Rattle.metrics.proofs.metrics_of.Statement.{statement}
use Rattle.metrics.proofs.metrics_of.Tie as tie

pub metrics_of_spec : {M : Type 1} → statement M
metrics_of_spec =
    tie.close
    (tie.spec
    (λ c. search rules)  -- cast-if2
    (λ c. search rules)  -- cast-offset
    (λ c. search rules)  -- mul-offset
    (λ c κs. search rules)  -- lies_in-requires
    (λ c. search start_fits)  -- add-narrow-inside
    (λ c κs. search five_inside)  -- narrow_inside-requires
    (λ c. search narrow_there)  -- returns
    (λ c κs. search rules)  -- metrics_in-requires
    (λ c. search rules))  -- returns-2

use borrow.Author.Rules.{rules}
use Rattle.metrics.proofs.Measuring.{as_narrow, as_wide}
use Rattle.metrics.proofs.measured_at.Statement.{statement}
use Rattle.metrics.proofs.measured_at.Tie as tie

pub measured_at_spec : {M : Type 1} → statement M
measured_at_spec =
    tie.close
    (tie.spec
    (λ c κs. search rules)  -- narrow_at-requires
    (λ c κs. search rules)  -- wide_at-requires
    (λ c. search as_narrow)  -- returns
    (λ c. search as_wide))  -- returns-2

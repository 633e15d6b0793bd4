use Rattle.metrics.specs.Measure.{get_metrics}
use Rattle.metrics.specs.declared.Measured.{Measured}
use borrow.Author.Rules.{rules}
use Rattle.tables.proofs.TestedRecord.{tested_6, tested_answers}
use Rattle.metrics.proofs.get_metrics.Statement.{statement}
use Rattle.metrics.proofs.get_metrics.Tie as tie

returns : tie.Need-returns-then-record_fits
unfolding get_metrics
returns c = search tested_answers

returns-2 : tie.Need-returns-else-record_fits
unfolding get_metrics
returns-2 c = search (tested_6 Measured.Refused)

pub get_metrics_spec : {M : Type 1} → statement M
get_metrics_spec =
    tie.close
    (tie.spec
    (λ c κs. search rules)  -- record_fits-requires
    (λ c κs. search rules)  -- metrics_in-requires
    returns
    returns-2)

use Rattle.metrics.specs.Measure.{get_accelerators}
use Rattle.metrics.specs.declared.Accelerated.{Accelerated}
use borrow.Author.Rules.{rules}
use Rattle.tables.proofs.TestedRecord.{tested_6, tested_answers}
use Rattle.metrics.proofs.get_accelerators.Statement.{statement}
use Rattle.metrics.proofs.get_accelerators.Tie as tie

returns : tie.Need-returns-then-record_fits
unfolding get_accelerators
returns c = search tested_answers

returns-2 : tie.Need-returns-else-record_fits
unfolding get_accelerators
returns-2 c = search (tested_6 Accelerated.Refused)

pub get_accelerators_spec : {M : Type 1} → statement M
get_accelerators_spec =
    tie.close
    (tie.spec
    (λ c κs. search rules)  -- record_fits-requires
    returns
    returns-2)

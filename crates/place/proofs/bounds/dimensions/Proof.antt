use Rattle.place.specs.Bounds.{dimensions}
use Rattle.place.specs.declared.Sized.{Sized}
use borrow.Author.Rules.{rules}
use Rattle.tables.proofs.TestedRecord.{tested_6, tested_answers}
use Rattle.place.proofs.bounds.dimensions.Statement.{statement}
use Rattle.place.proofs.bounds.dimensions.Tie as tie

returns : tie.Need-returns-then-record_fits
unfolding dimensions
returns c = search tested_answers

returns-2 : tie.Need-returns-else-record_fits
unfolding dimensions
returns-2 c = search (tested_6 Sized.Refused)

pub dimensions_spec : {M : Type 1} → statement M
dimensions_spec =
    tie.close
    (tie.spec
    (λ c κs. search rules)  -- record_fits-requires
    (λ c κs. search rules)  -- bounds_sized-requires
    returns
    returns-2)

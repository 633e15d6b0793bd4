use Rattle.names.specs.Names.{get_name}
use Rattle.names.specs.declared.Named.{Named}
use borrow.Author.Rules.{rules}
use Rattle.tables.proofs.TestedRecord.{tested_6, tested_answers}
use Rattle.names.proofs.get_name.Statement.{statement}
use Rattle.names.proofs.get_name.Tie as tie

returns : tie.Need-returns-then-record_fits
unfolding get_name
returns c = search tested_answers

returns-2 : tie.Need-returns-else-record_fits
unfolding get_name
returns-2 c = search (tested_6 Named.Refused)

pub get_name_spec : {M : Type 1} → statement M
get_name_spec =
    tie.close
    (tie.spec
    (λ c κs. search rules)  -- record_fits-requires
    (λ c κs. search rules)  -- name_of-requires
    returns
    returns-2)

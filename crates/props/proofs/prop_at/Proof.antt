use borrow.Author.Rules.{rules}
use Rattle.tables.proofs.TestedRecord.{tested_6, tested_answers}
use Rattle.props.specs.Props.{prop_at}
use Rattle.props.specs.declared.PropFound.{PropFound}
use Rattle.props.proofs.prop_at.Statement.{statement}
use Rattle.props.proofs.prop_at.Tie as tie

returns : tie.Need-returns-then-record_fits
unfolding prop_at
returns c = search tested_answers

returns-2 : tie.Need-returns-else-record_fits
unfolding prop_at
returns-2 c = search (tested_6 PropFound.Refused)

pub prop_at_spec : {M : Type 1} → statement M
prop_at_spec =
    tie.close
    (tie.spec
    (λ c κs. search rules)  -- record_fits-requires
    (λ c κs. search rules)  -- prop_of-requires
    returns
    returns-2)

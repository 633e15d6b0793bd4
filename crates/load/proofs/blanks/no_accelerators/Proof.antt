use borrow.Author.Rules.{rules}
use Rattle.load.proofs.blanks.no_accelerators.Statement.{statement}
use Rattle.load.proofs.blanks.no_accelerators.Tie as tie

returns : tie.Need-returns
returns c = rw (c.before.no_metrics-minbounds.ensures, c.no_metrics-maxbounds.ensures)

pub no_accelerators_spec : {M : Type 1} → statement M
no_accelerators_spec =
    tie.close
    (tie.spec
    (λ c κs. search rules)  -- no_metrics-requires
    (λ c κs. search rules)  -- no_metrics-requires-2
    returns)

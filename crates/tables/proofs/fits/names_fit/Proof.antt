use borrow.Author.Rules.{rules}
use Rattle.tables.specs.Fits.{names_fit}
use Rattle.tables.proofs.Together.{both_are}
use Rattle.tables.proofs.fits.names_fit.Statement.{statement}
use Rattle.tables.proofs.fits.names_fit.Tie as tie

pub names_fit_spec : {M : Type 1} → statement M
unfolding names_fit
names_fit_spec =
    tie.close
    (tie.spec
    (λ c. search rules)  -- cast-is-inside
    (λ c. search rules)  -- mul-is-inside
    (λ c κs. search rules)  -- is_inside-requires
    (λ c κs. search rules)  -- is_inside-requires-2
    (λ c. search both_are))  -- returns

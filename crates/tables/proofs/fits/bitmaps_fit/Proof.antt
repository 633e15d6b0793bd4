use borrow.Author.Rules.{rules}
use Rattle.tables.specs.Fits.{bitmaps_fit}
use Rattle.tables.proofs.Together.{both_are}
use Rattle.tables.proofs.fits.bitmaps_fit.Statement.{statement}
use Rattle.tables.proofs.fits.bitmaps_fit.Tie as tie

pub bitmaps_fit_spec : {M : Type 1} → statement M
unfolding bitmaps_fit
bitmaps_fit_spec =
    tie.close
    (tie.spec
    (λ c. search rules)  -- cast-is-inside
    (λ c. search rules)  -- mul-is-inside
    (λ c κs. search rules)  -- is_inside-requires
    (λ c κs. search rules)  -- is_inside-requires-2
    (λ c κs. search rules)  -- pad_fits-requires
    (λ c. search both_are))  -- returns

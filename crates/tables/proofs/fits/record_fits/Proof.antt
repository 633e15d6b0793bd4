use borrow.Author.Rules.{rules}
use Rattle.tables.specs.Fits.{record_fits}
use Rattle.tables.proofs.Together.{both_are}
use Rattle.tables.proofs.fits.record_fits.Statement.{statement}
use Rattle.tables.proofs.fits.record_fits.Tie as tie

pub record_fits_spec : {M : Type 1} → statement M
unfolding record_fits
record_fits_spec =
    tie.close
    (tie.spec
    (λ c κs. search rules)  -- props_fit-requires
    (λ c κs. search rules)  -- metrics_fit-requires
    (λ c κs. search rules)  -- bitmaps_fit-requires
    (λ c κs. search rules)  -- codes_fit-requires
    (λ c κs. search rules)  -- names_fit-requires
    (λ c. search both_are))  -- returns

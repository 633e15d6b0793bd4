use Rattle.tables.proofs.Guarded.{guard_6, guard_15, guard_gives}
use Rattle.tables.proofs.fits.guard.Statement.{statement}
use Rattle.tables.proofs.fits.guard.Tie as tie

pub guard_spec : {M : Type 1} → statement M
guard_spec =
    tie.close
    (tie.spec
    (λ c. search guard_6)  -- returns
    (λ c. search guard_15)  -- returns-2
    (λ c. search guard_gives))  -- returns-3

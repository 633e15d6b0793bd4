use mir.Syntax.{w16}
use mir.Facts.{to_z-of_z}
use Rattle.place.proofs.Whole.{from_zero}
use Rattle.place.proofs.bounds.is_natural.Statement.{statement}
use Rattle.place.proofs.bounds.is_natural.Tie as tie

pub is_natural_spec : {M : Type 1} → statement M
is_natural_spec =
    tie.close
    (tie.spec
    (λ c. rw (to_z-of_z {w = w16} {z = c.args.z} c.ranges.z) (from_zero c.args.z)))  -- returns

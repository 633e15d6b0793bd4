use mir.Syntax.{w32}
use mir.Facts.{to_z-of_z}
use Rattle.place.proofs.Whole.{from_zero}
use Rattle.place.proofs.bounds.in_range.Statement.{statement}
use Rattle.place.proofs.bounds.in_range.Tie as tie

pub in_range_spec : {M : Type 1} → statement M
in_range_spec =
    tie.close
    (tie.spec
    (λ c. rw (to_z-of_z {w = w32} {z = c.args.z} c.ranges.z, from_zero c.args.z)))  -- returns

use native.Mathlib.Omega.{arith}
use Rattle.place.proofs.Whole.{in_range_small}
use mir.Syntax.{w32}
use mir.Facts.{to_z-of_z}
use borrow.Author.Rules.{rules}
use Rattle.place.proofs.bounds.natural_i32.Statement.{statement}
use Rattle.place.proofs.bounds.natural_i32.Tie as tie

cast-result : tie.Need-overflow_cast-result
cast-result c = rw (to_z-of_z {w = w32} {z = c.args.z} c.ranges.z) ((in_range_small c.args.z c.requires).0, omega (arith, (in_range_small c.args.z c.requires).1))

pub natural_i32_spec : {M : Type 1} → statement M
natural_i32_spec =
    tie.close
    (tie.spec
    cast-result
    (λ c. search rules))  -- returns

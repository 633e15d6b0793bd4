use mir.Syntax.{w16}
use mir.Facts.{to_z-of_z, Fits-nat_abs}
use borrow.Author.Rules.{rules}
use Rattle.place.proofs.bounds.natural_i16.Statement.{statement}
use Rattle.place.proofs.bounds.natural_i16.Tie as tie

pub natural_i16_spec : {M : Type 1} → statement M
natural_i16_spec =
    tie.close
    (tie.spec
    (λ c. rw (to_z-of_z {w = w16} {z = c.args.z} c.ranges.z) (search rules, Fits-nat_abs tt c.ranges.z))  -- cast-result
    (λ c. search rules))  -- returns

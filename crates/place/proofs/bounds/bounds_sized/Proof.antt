use borrow.Author.Rules.{rules}
use Rattle.place.proofs.Placing.{bounds_height, bounds_width, bounds_are, bounds_11}
use Rattle.place.proofs.bounds.bounds_sized.Statement.{statement}
use Rattle.place.proofs.bounds.bounds_sized.Tie as tie

pub bounds_sized_spec : {M : Type 1} → statement M
bounds_sized_spec =
    tie.close
    (tie.spec
    (λ c κs. search rules)  -- bounds_hold-requires
    (λ c κs. search rules)  -- height_of-requires
    (λ c κs. search bounds_height)  -- natural_i32-requires
    (λ c. search rules)  -- cast-height
    (λ c κs. search bounds_width)  -- natural_i16-requires
    (λ c. search rules)  -- cast-width
    (λ c. search bounds_are)  -- returns
    (λ c. search bounds_11))  -- returns-2

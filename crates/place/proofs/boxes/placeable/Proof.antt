use borrow.Author.Rules.{rules}
use Rattle.place.proofs.Placing.{placeable_is}
use Rattle.place.proofs.boxes.placeable.Statement.{statement}
use Rattle.place.proofs.boxes.placeable.Tie as tie

pub placeable_spec : {M : Type 1} → statement M
placeable_spec =
    tie.close
    (tie.spec
    (λ c κs. search rules)  -- is_natural-requires
    (λ c κs. search rules)  -- is_natural-requires-2
    (λ c κs. search rules)  -- is_natural-requires-3
    (λ c κs. search rules)  -- height_of-requires
    (λ c κs. search rules)  -- in_range-requires
    (λ c κs. search rules)  -- at_most-requires
    (λ c. search placeable_is))  -- returns

use borrow.Author.Rules.{rules}
use Rattle.place.proofs.Placing.{bounds_held}
use Rattle.place.proofs.bounds.bounds_hold.Statement.{statement}
use Rattle.place.proofs.bounds.bounds_hold.Tie as tie

pub bounds_hold_spec : {M : Type 1} → statement M
bounds_hold_spec =
    tie.close
    (tie.spec
    (λ c κs. search rules)  -- is_natural-requires
    (λ c κs. search rules)  -- is_natural-requires-2
    (λ c κs. search rules)  -- height_of-requires
    (λ c κs. search rules)  -- in_range-requires
    (λ c. search bounds_held))  -- returns

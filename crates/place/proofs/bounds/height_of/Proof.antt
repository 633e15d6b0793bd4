use borrow.Author.Rules.{rules}
use Rattle.place.proofs.Placing.{height_is}
use Rattle.place.proofs.bounds.height_of.Statement.{statement}
use Rattle.place.proofs.bounds.height_of.Tie as tie

pub height_of_spec : {M : Type 1} → statement M
height_of_spec =
    tie.close
    (tie.spec
    (λ c κs. search rules)  -- sum_of-requires
    (λ c. search height_is))  -- returns

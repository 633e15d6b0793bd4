use borrow.Author.Rules.{rules}
use Rattle.place.proofs.Placing.{boxed_asks, boxed_is, boxed_11}
use Rattle.place.proofs.boxes.boxed.Statement.{statement}
use Rattle.place.proofs.boxes.boxed.Tie as tie

pub boxed_spec : {M : Type 1} → statement M
boxed_spec =
    tie.close
    (tie.spec
    (λ c κs. search rules)  -- placeable-requires
    (λ c κs. search boxed_asks)  -- box_of-requires
    (λ c. search boxed_is)  -- returns
    (λ c. search boxed_11))  -- returns-2

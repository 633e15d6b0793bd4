use borrow.Author.Rules.{rules}
use Rattle.place.proofs.Placing.{info_boxed, info_refused}
use Rattle.place.proofs.boxes.info_of.Statement.{statement}
use Rattle.place.proofs.boxes.info_of.Tie as tie

pub info_of_spec : {M : Type 1} → statement M
info_of_spec =
    tie.close
    (tie.spec
    (λ c κs. search rules)  -- metrics_of-requires
    (λ c. search rules)  -- enum-known-measured
    (λ c κs. search rules)  -- boxed-requires
    (λ c. search rules)  -- enum-known-measured-2
    (λ c. search info_boxed)  -- returns
    (λ c. search info_refused))  -- returns-2

use Rattle.place.proofs.Whole.{widens, sum_widens, sum_is}
use Rattle.place.proofs.bounds.sum_of.Statement.{statement}
use Rattle.place.proofs.bounds.sum_of.Tie as tie

pub sum_of_spec : {M : Type 1} → statement M
sum_of_spec =
    tie.close
    (tie.spec
    (λ c. search widens)  -- cast-result
    (λ c. search widens)  -- cast-result-2
    (λ c. search sum_widens)  -- add-result
    (λ c. search sum_is))  -- returns

use Rattle.reads.proofs.Lies.{sum_fits, reach_inside, reach_past}
use borrow.Author.Rules.{rules}
use Rattle.reads.proofs.reach.Statement.{statement}
use Rattle.reads.proofs.reach.Tie as tie

pub reach_spec : {M : Type 1} → statement M
reach_spec =
    tie.close
    (tie.spec
    (λ c κs. search rules)  -- lies_in-requires
    (λ c. search sum_fits)  -- add-result
    (λ c. search reach_inside)  -- returns
    (λ c. search reach_past))  -- returns-2

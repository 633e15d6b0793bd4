use Rattle.lookup.proofs.ServedBy.{own_first, else_other}
use borrow.Author.Rules.{rules}
use Rattle.lookup.proofs.serving.or_stand_in.Statement.{statement}
use Rattle.lookup.proofs.serving.or_stand_in.Tie as tie

pub or_stand_in_spec : {M : Type 1} → statement M
or_stand_in_spec =
    tie.close
    (tie.spec
    (λ c. search rules)  -- enum-known-own
    (λ c κs. search rules)  -- by_itself-requires
    (λ c. search rules)  -- enum-told
    (λ c κs. search rules)  -- stand_in-requires
    (λ c. search own_first)  -- returns
    (λ c. search else_other))  -- returns-2

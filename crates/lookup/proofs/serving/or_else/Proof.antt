use Rattle.lookup.proofs.ServedBy.{own_first}
use borrow.Author.Rules.{rules}
use Rattle.lookup.proofs.serving.or_else.Statement.{statement}
use Rattle.lookup.proofs.serving.or_else.Tie as tie

pub or_else_spec : {M : Type 1} → statement M
or_else_spec =
    tie.close
    (tie.spec
    (λ c. search rules)  -- enum-known-own
    (λ c κs. search rules)  -- by_itself-requires
    (λ c. search rules)  -- enum-told
    (λ c. search own_first)  -- returns
    (λ c. search rules))  -- returns-2

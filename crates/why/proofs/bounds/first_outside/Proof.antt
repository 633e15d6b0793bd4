use Rattle.why.proofs.Outside.{first_none, first_two}
use borrow.Author.Rules.{rules}
use Rattle.why.proofs.bounds.first_outside.Statement.{statement}
use Rattle.why.proofs.bounds.first_outside.Tie as tie

pub first_outside_spec : {M : Type 1} → statement M
first_outside_spec =
    tie.close
    (tie.spec
    (λ c κs. search rules)  -- one_byte-requires
    (λ c. search first_none)  -- returns
    (λ c. search rules)  -- cast-result
    (λ c. search rules)  -- cast-result-2
    (λ c. search first_two))  -- returns-2

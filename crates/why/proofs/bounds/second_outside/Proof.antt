use Rattle.why.proofs.Outside.{second_out}
use borrow.Author.Rules.{rules}
use Rattle.why.proofs.bounds.second_outside.Statement.{statement}
use Rattle.why.proofs.bounds.second_outside.Tie as tie

pub second_outside_spec : {M : Type 1} → statement M
second_outside_spec =
    tie.close
    (tie.spec
    (λ c κs. search rules)  -- second_byte-requires
    (λ c. search rules)  -- cast-result
    (λ c. search rules)  -- cast-result-2
    (λ c. search second_out))  -- returns

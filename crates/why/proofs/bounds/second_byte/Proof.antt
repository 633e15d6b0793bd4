use Rattle.why.proofs.Outside.{second_whole, second_of_two}
use borrow.Author.Rules.{rules}
use Rattle.why.proofs.bounds.second_byte.Statement.{statement}
use Rattle.why.proofs.bounds.second_byte.Tie as tie

pub second_byte_spec : {M : Type 1} → statement M
second_byte_spec =
    tie.close
    (tie.spec
    (λ c κs. search rules)  -- one_byte-requires
    (λ c. search second_whole)  -- returns
    (λ c. search second_of_two))  -- returns-2

use Rattle.reads.proofs.Digits.{byte_is}
use borrow.Author.Rules.{rules}
use Rattle.reads.proofs.byte_at.Statement.{statement}
use Rattle.reads.proofs.byte_at.Tie as tie

pub byte_at_spec : {M : Type 1} → statement M
byte_at_spec =
    tie.close
    (tie.spec
    (λ c κs. search rules)  -- number_at-requires
    (λ c. search rules)  -- cast-result
    (λ c. search byte_is))  -- returns

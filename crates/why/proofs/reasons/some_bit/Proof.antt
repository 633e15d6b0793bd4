use Rattle.why.proofs.SomeBit.{bit_past}
use borrow.Author.Rules.{rules}
use Rattle.why.proofs.reasons.some_bit.Statement.{statement}
use Rattle.why.proofs.reasons.some_bit.Tie as tie

pub some_bit_spec : {M : Type 1} → statement M
some_bit_spec =
    tie.close
    (tie.spec
    (λ c κs. search rules)  -- pixel_past-requires
    (λ c. search bit_past))  -- returns

use borrow.Author.Rules.{rules}
use Rattle.tables.proofs.Measured.{wide}
use Rattle.tables.proofs.measures.wide_at.Statement.{statement}
use Rattle.tables.proofs.measures.wide_at.Tie as tie

pub wide_at_spec : {M : Type 1} → statement M
wide_at_spec =
    tie.close
    (tie.spec
    (λ c κs. search rules)  -- reach-requires
    (λ c κs. search rules)  -- i16_at-requires
    (λ c κs. search rules)  -- i16_at-requires-2
    (λ c κs. search rules)  -- i16_at-requires-3
    (λ c κs. search rules)  -- i16_at-requires-4
    (λ c κs. search rules)  -- i16_at-requires-5
    (λ c κs. search rules)  -- u16_at-requires
    (λ c. search wide))  -- returns

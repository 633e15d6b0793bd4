use borrow.Author.Rules.{rules}
use Rattle.names.proofs.Naming.{name_17, name_there}
use Rattle.names.proofs.name_of.Statement.{statement}
use Rattle.names.proofs.name_of.Tie as tie

pub name_of_spec : {M : Type 1} → statement M
name_of_spec =
    tie.close
    (tie.spec
    (λ c. search rules)  -- cast-i
    (λ c. search name_17)  -- returns
    (λ c. search rules)  -- cast-u32-at
    (λ c. search rules)  -- mul-u32-at
    (λ c κs. search rules)  -- u32_at-requires
    (λ c. search rules)  -- cast-from
    (λ c κs. search rules)  -- string_at-requires
    (λ c. search name_there))  -- returns-2

use borrow.Author.Rules.{rules}
use Rattle.tables.proofs.Reading.{names_past, names_inside}
use Rattle.tables.proofs.name_table.names_at.Statement.{statement}
use Rattle.tables.proofs.name_table.names_at.Tie as tie

pub names_at_spec : {M : Type 1} → statement M
names_at_spec =
    tie.close
    (tie.spec
    (λ c κs. search rules)  -- format_at-requires
    (λ c κs. search rules)  -- big_bit-requires
    (λ c κs. search rules)  -- u32_at-requires
    (λ c. search rules)  -- cast-before
    (λ c. search rules)  -- mul-before
    (λ c. search rules)  -- add-before
    (λ c κs. search rules)  -- u32_at-requires-2
    (λ c. search rules)  -- cast-size
    (λ c. search rules)  -- add-strings
    (λ c. search rules)  -- add-strings-2
    (λ c. search rules)  -- add-if1
    (λ c. search names_past)  -- returns
    (λ c. search rules)  -- add-t12
    (λ c. search names_inside))  -- returns-2

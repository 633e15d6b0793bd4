use borrow.Author.Rules.{rules}
use Rattle.tables.proofs.Reading.{properties_past, properties_inside}
use Rattle.tables.proofs.property_table.properties_at.Statement.{statement}
use Rattle.tables.proofs.property_table.properties_at.Tie as tie

pub properties_at_spec : {M : Type 1} → statement M
properties_at_spec =
    tie.close
    (tie.spec
    (λ c κs. search rules)  -- format_at-requires
    (λ c κs. search rules)  -- big_bit-requires
    (λ c κs. search rules)  -- u32_at-requires
    (λ c. search rules)  -- cast-padded-4
    (λ c. search rules)  -- mul-padded-4
    (λ c. search rules)  -- add-padded-4
    (λ c κs. search rules)  -- padded_4-requires
    (λ c κs. search rules)  -- u32_at-requires-2
    (λ c. search rules)  -- cast-size
    (λ c. search rules)  -- add-strings
    (λ c. search rules)  -- add-strings-2
    (λ c. search rules)  -- add-if1
    (λ c. search properties_past)  -- returns
    (λ c. search rules)  -- add-t13
    (λ c. search properties_inside))  -- returns-2

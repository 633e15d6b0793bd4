use borrow.Author.Rules.{rules}
use Rattle.tables.proofs.Reading.{header_past, second_crossed, first_crossed, entries_past, codes_inside}
use Rattle.tables.proofs.code_table.codes_at.Statement.{statement}
use Rattle.tables.proofs.code_table.codes_at.Tie as tie

pub codes_at_spec : {M : Type 1} → statement M
codes_at_spec =
    tie.close
    (tie.spec
    (λ c. search rules)  -- add-if1
    (λ c. search header_past)  -- returns
    (λ c κs. search rules)  -- format_at-requires
    (λ c κs. search rules)  -- big_bit-requires
    (λ c κs. search rules)  -- u16_at-requires
    (λ c κs. search rules)  -- u16_at-requires-2
    (λ c κs. search rules)  -- u16_at-requires-3
    (λ c κs. search rules)  -- u16_at-requires-4
    (λ c. search second_crossed)  -- returns-2
    (λ c. search first_crossed)  -- returns-3
    (λ c. search rules)  -- add-entries
    (λ c κs. search rules)  -- entry_count-requires
    (λ c. search rules)  -- mul-size
    (λ c. search rules)  -- add-if4
    (λ c. search entries_past)  -- returns-4
    (λ c κs. search rules)  -- u16_at-requires-5
    (λ c. search codes_inside))  -- returns-5

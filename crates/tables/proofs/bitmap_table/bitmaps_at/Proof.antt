use borrow.Author.Rules.{rules}
use Rattle.tables.proofs.Reading.{bitmaps_past, bitmaps_inside}
use Rattle.tables.proofs.bitmap_table.bitmaps_at.Statement.{statement}
use Rattle.tables.proofs.bitmap_table.bitmaps_at.Tie as tie

pub bitmaps_at_spec : {M : Type 1} → statement M
bitmaps_at_spec =
    tie.close
    (tie.spec
    (λ c κs. search rules)  -- format_at-requires
    (λ c κs. search rules)  -- big_bit-requires
    (λ c κs. search rules)  -- u32_at-requires
    (λ c. search rules)  -- cast-sizes
    (λ c. search rules)  -- mul-sizes
    (λ c. search rules)  -- add-sizes
    (λ c. search rules)  -- add-sizes-2
    (λ c κs. search rules)  -- pad_code-requires
    (λ c. search rules)  -- mul-u32-at
    (λ c κs. search rules)  -- u32_at-requires-2
    (λ c. search rules)  -- cast-size
    (λ c. search rules)  -- add-bits
    (λ c. search rules)  -- add-if1
    (λ c. search bitmaps_past)  -- returns
    (λ c κs. search rules)  -- pad_of-requires
    (λ c κs. search rules)  -- unit_code-requires
    (λ c κs. search rules)  -- top_bit-requires
    (λ c. search rules)  -- add-t16
    (λ c. search bitmaps_inside))  -- returns-2

-- The property table. From document 01: "Properties (1): format, count, 9 bytes each (name offset, string flag, value), padding
-- to a multiple of 4 from the table's start, string size, strings."
use Rattle.std.specs.Prelude.{ℕ, ◌+◌, ◌*◌, ◌/◌, cond, List, ltb}
use Rattle.reads.specs.Num.{u32_at}
use Rattle.tables.specs.Format.{format_at, big_bit}
use Rattle.tables.specs.declared.PropertiesData.{PropertiesData}
use Rattle.tables.specs.declared.TableRead.{TableRead}

-- "padding to a multiple of 4"
abbrev pub padded4 : ℕ → ℕ
padded4 n = (n + 3) / 4 * 4

-- the table that begins at `at`, as its numbers say
unfoldable pub properties_table : List ℕ → ℕ → PropertiesData
properties_table s at =
    let big = big_bit (format_at s at) in
    let count = u32_at big s (at + 4) in
    let size_at = at + padded4 (8 + 9 * count) in
    record { big = big; count = count; records = at + 8; strings = size_at + 4; size = u32_at big s size_at }

-- where its contents end
abbrev pub properties_end : PropertiesData → ℕ
properties_end p = p.strings + p.size

-- 6 where "a known table's contents run past its bytes", which end at `end`
unfoldable pub properties_at : List ℕ → ℕ → ℕ → TableRead
properties_at s at end =
    let p = properties_table s at in
    cond (ltb end (properties_end p)) (TableRead.Refused 6) (TableRead.Properties p)

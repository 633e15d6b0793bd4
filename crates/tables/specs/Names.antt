-- The names table. From document 01: "Names (128): format, count, offsets, string size, strings."
use Rattle.std.specs.Prelude.{ℕ, ◌+◌, ◌*◌, cond, List, ltb}
use Rattle.reads.specs.Num.{u32_at}
use Rattle.tables.specs.Format.{format_at, big_bit}
use Rattle.tables.specs.declared.GlyphNameData.{GlyphNameData}
use Rattle.tables.specs.declared.TableRead.{TableRead}

-- the table that begins at `at`, as its numbers say
unfoldable pub names_table : List ℕ → ℕ → GlyphNameData
names_table s at =
    let big = big_bit (format_at s at) in
    let count = u32_at big s (at + 4) in
    let size_at = at + (8 + 4 * count) in
    record { big = big; count = count; offsets = at + 8; strings = size_at + 4; size = u32_at big s size_at }

-- where its contents end
abbrev pub names_end : GlyphNameData → ℕ
names_end n = n.strings + n.size

-- 6 where "a known table's contents run past its bytes", which end at `end`
unfoldable pub names_at : List ℕ → ℕ → ℕ → TableRead
names_at s at end =
    let n = names_table s at in
    cond (ltb end (names_end n)) (TableRead.Refused 6) (TableRead.Names n)

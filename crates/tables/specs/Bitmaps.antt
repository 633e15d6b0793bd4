-- The bitmap table. From document 01: "Bitmaps (8): format, count, offsets, four sizes, data of the size picked by format & 3,
-- with a row pad of 1, 2, 4 or 8 bytes."
use Rattle.std.specs.Prelude.{ℕ, ◌+◌, ◌*◌, cond, List, ltb}
use Rattle.reads.specs.Num.{u32_at}
use Rattle.tables.specs.Format.{format_at, big_bit, top_bit, pad_code, pad_of, unit_code}
use Rattle.tables.specs.declared.BitmapData.{BitmapData}
use Rattle.tables.specs.declared.TableRead.{TableRead}

-- the table that begins at `at`, as its numbers say
unfoldable pub bitmaps_table : List ℕ → ℕ → BitmapData
bitmaps_table s at =
    let format = format_at s at in
    let big = big_bit format in
    let count = u32_at big s (at + 4) in
    let sizes_at = at + (8 + 4 * count) in
    record {
      big = big;
      count = count;
      offsets = at + 8;
      bits = sizes_at + 16;
      size = u32_at big s (sizes_at + 4 * pad_code format);
      pad = pad_of format;
      unit = unit_code format;
      top = top_bit format;
    }

-- where its contents end
abbrev pub bitmaps_end : BitmapData → ℕ
bitmaps_end b = b.bits + b.size

-- 6 where "a known table's contents run past its bytes", which end at `end`
unfoldable pub bitmaps_at : List ℕ → ℕ → ℕ → TableRead
bitmaps_at s at end =
    let b = bitmaps_table s at in
    cond (ltb end (bitmaps_end b)) (TableRead.Refused 6) (TableRead.Bitmaps b)

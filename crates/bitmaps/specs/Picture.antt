-- A glyph's bitmap in the font's bytes: its data, the rows that lie in it, its pixels. From document 01, "Reading the tables", bitmaps,
-- and refusals 12 to 14 and 16; 13 and 14 as document 02 has them.
use Rattle.std.specs.Prelude.{ℕ, ◌+◌, ◌*◌, Bool, ◌||◌, List, length, take, drop, leb, ltb, eqb}
use Rattle.reads.specs.Num.{u32_at}
use Rattle.tables.specs.declared.BitmapData.{BitmapData}
use Rattle.bitmaps.specs.Units.{order_of, unit_bytes, bit_at}
use Rattle.bitmaps.specs.Rows.{row_stride, bytes_past}
use Rattle.bitmaps.specs.Place.{Place}
use Rattle.bitmaps.specs.Dots.{some_dot}

-- 12 "glyph at or above the bitmap count"
abbrev pub no_bitmap : BitmapData → ℕ → Bool
no_bitmap b g = leb b.count g

-- 13 "for unit code 3 and for a unit wider than the row pad"
abbrev pub unreadable : BitmapData → Bool
unreadable b = leb 3 b.unit || ltb b.pad (unit_bytes b.unit)

-- the bitmap data
abbrev pub bits_of : List ℕ → BitmapData → List ℕ
bits_of s b = take b.size (drop b.bits s)

-- where glyph g's rows begin in it
unfoldable pub offset_of : List ℕ → BitmapData → ℕ → ℕ
offset_of s b g = u32_at b.big s (b.offsets + 4 * g)

-- where row r of glyph g, of this width, begins
abbrev pub row_of : List ℕ → BitmapData → ℕ → ℕ → ℕ → ℕ
row_of s b g width r = offset_of s b g + r * row_stride width b.pad

-- 14: the first n rows of glyph g are not all in the data
unfoldable pub rows_short : List ℕ → BitmapData → ℕ → ℕ → ℕ → Bool
rows_short s b g width n = bytes_past (length (bits_of s b)) (order_of b) (row_of s b g width) width n

-- the bit of glyph g at row r, column c
unfoldable pub glyph_bit : List ℕ → BitmapData → ℕ → ℕ → ℕ → ℕ → Bool
glyph_bit s b g width r c = bit_at (bits_of s b) (order_of b) (row_of s b g width r) c

-- pixel i is one of glyph g, drawn there; its first `columns` columns and n rows count
abbrev pub in_picture : List ℕ → BitmapData → ℕ → ℕ → ℕ → Place → ℕ → ℕ → Bool
in_picture s b g width columns at n i = some_dot (glyph_bit s b g width) at columns n (λ j. eqb i j)

-- 16 "a pixel to colour lies beyond the buffer", of `len` pixels
abbrev pub pixel_past : List ℕ → BitmapData → ℕ → ℕ → ℕ → Place → ℕ → ℕ → Bool
pixel_past s b g width columns at n len = some_dot (glyph_bit s b g width) at columns n (λ j. leb len j)

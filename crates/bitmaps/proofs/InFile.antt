-- The bits of a glyph whose rows 14 does not refuse are bits of the file.
use Prim.Native.Nat.{ℕ, ◌+◌, ◌*◌, ◌%◌, ◌<◌, ◌≤◌}
use mathlib.Core.Path.{◌≡◌, refl, sym, ap, ◌∙◌}
use mathlib.Core.Bool.{Bool, false}
use mathlib.Core.List.{List}
use native.Mathlib.Omega.{arith}
use lib.ListN.{length}
use Rattle.reads.specs.Num.{byte_at, Octets}
use Rattle.tables.specs.declared.BitmapData.{BitmapData}
use Rattle.bitmaps.specs.Units.{order_of, bit_index, bit_at, byte_of}
use Rattle.bitmaps.specs.Rows.{row_stride, row_end, column}
use Rattle.bitmaps.specs.Unpack.{whole_columns}
use Rattle.bitmaps.specs.Place.{Place}
use Rattle.bitmaps.specs.Dots.{some_dot}
use Rattle.bitmaps.specs.Picture.{bits_of, offset_of, row_of, rows_short, glyph_bit}
use Rattle.bitmaps.proofs.UnitBits.{bit_held}
use Rattle.bitmaps.proofs.RowEnds.{end_above_whole, end_reached}
use Rattle.bitmaps.proofs.DataBytes.{data_length, data_byte, data_octets}
use Rattle.bitmaps.proofs.RowsInside.{rows_inside}
use Rattle.bitmaps.proofs.Shift.{dot_same}

module _ (s : List ℕ) (b : BitmapData) (g width n : ℕ) (there : rows_short s b g width n ≡ false) where
  -- where row r begins in the file
  abbrev pub file_row : ℕ → ℕ
  file_row r = b.bits + offset_of s b g + r * row_stride width b.pad

  module _ (r : ℕ) (h : r < n) where
    in_data : (c : ℕ) → c < whole_columns width → row_of s b g width r + byte_of (order_of b) c < length (bits_of s b)
    in_data c l =
        let (k, m, e) = end_reached (order_of b) width (omega arith) in
        omega (arith, e, end_above_whole (order_of b) width c l, rows_inside s b g width n there r k h m)

    -- the bytes that hold the row's columns lie in the file
    pub row_in_file : 0 < width → file_row r + row_end (order_of b) width ≤ length s
    row_in_file w =
        let (k, m, e) = end_reached (order_of b) width w in
        omega (arith, e, in_data k (omega arith), data_length s b)

    -- and so does each bit
    pub bit_in_file : Octets s → (c : ℕ) → c < whole_columns width → glyph_bit s b g width r c ≡ bit_at s (order_of b) (file_row r) c
    unfolding glyph_bit
    bit_in_file bytes c l =
        let o = order_of b in
        let k = row_of s b g width r + byte_of o c in
        let e : b.bits + k ≡ file_row r + byte_of o c = omega arith in
        bit_held (bits_of s b) o (row_of s b g width r) c (data_octets s b bytes)
        ∙ ap (λ (x : ℕ). column x (bit_index o c % 8)) (data_byte s b k (omega (arith, in_data c l, data_length s b)) ∙ ap (λ (x : ℕ). byte_at s x) e)
        ∙ sym (bit_held s o (file_row r) c bytes)

  -- the pixels of the glyph's first columns are those of the file's bits
  pub dots_in_file : Octets s → (at : Place) (columns : ℕ) (test : ℕ → Bool) → columns ≤ whole_columns width
      → some_dot (glyph_bit s b g width) at columns n test ≡ some_dot (λ r. bit_at s (order_of b) (file_row r)) at columns n test
  dots_in_file bytes at columns test h =
      dot_same at.stride at.scale columns n (glyph_bit s b g width) (λ r. bit_at s (order_of b) (file_row r)) at.p at.p test test
      (λ r c l k. bit_in_file r l bytes c (omega arith)) (λ k. refl)

-- The first columns of a glyph's rows, read from the file and coloured in what the buffer has from p on, are that picture drawn at p.
use Prim.Native.Nat.{ℕ, ◌+◌, ◌-◌, ◌^◌, ◌<◌, ◌≤◌}
use mathlib.Core.Path.{◌≡◌, sym, ◌∙◌}
use mathlib.Core.Bool.{Bool, false, ◌||◌}
use mathlib.Core.List.{List}
use native.Mathlib.Omega.{arith}
use lib.Dec.{eqb, leb}
use lib.ListN.{length, take, drop}
use mir.Syntax.{w64}
use mir.Val.{Fits}
use borrow.Author.Tests.{eqb-false}
use borrow.Rule.Slice.PartMut.{put_mid}
use Rattle.reads.specs.Num.{Octets}
use Rattle.reads.proofs.Tests.{or_neither}
use Rattle.tables.specs.declared.BitmapData.{BitmapData}
use Rattle.bitmaps.specs.Paint.{painted}
use Rattle.bitmaps.specs.Units.{order_of}
use Rattle.bitmaps.specs.Rows.{row_stride, row_end, bytes_past}
use Rattle.bitmaps.specs.Unpack.{whole_columns}
use Rattle.bitmaps.specs.Place.{place_at}
use Rattle.bitmaps.specs.Dots.{some_dot}
use Rattle.bitmaps.specs.Ink.{in_rows, rows_past, row_start, row_bits, RowsIn}
use Rattle.bitmaps.specs.declared.Order.{Order}
use Rattle.bitmaps.specs.Picture.{bits_of, offset_of, rows_short, glyph_bit, in_picture, pixel_past}
use Rattle.bitmaps.proofs.Painting.{painted_same, lent_length}
use Rattle.bitmaps.proofs.Shift.{past_room, lent_painted}
use Rattle.bitmaps.proofs.RowEnds.{end_reached}
use Rattle.bitmaps.proofs.InFile.{row_in_file, dots_in_file}
use Rattle.bitmaps.proofs.LastByte.{glyph_short}

-- there are a row and a column
pub some_there : (n width : ℕ) → eqb n 0 || eqb width 0 ≡ false → (0 < n) × (0 < width)
some_there n width e =
    let (rows, columns) = or_neither (eqb n 0) (eqb width 0) e in
    (omega (arith, eqb-false n 0 rows), omega (arith, eqb-false width 0 columns))

-- the rows of glyph g are found: where the first begins in the data, how far apart they are, and that all their bytes are there
pub record Found (s : List ℕ) (b : BitmapData) (g width n first step : ℕ) : Type 0 where
  pub rows : 0 < n
  pub columns : 0 < width
  pub first_is : first ≡ offset_of s b g
  pub step_is : step ≡ row_stride width b.pad
  pub there : rows_short s b g width n ≡ false

module _ (s : List ℕ) (b : BitmapData) (g width n first step : ℕ) (short : Bool) (some : eqb n 0 || eqb width 0 ≡ false)
    (first_is : first ≡ offset_of s b g) (step_is : step ≡ row_stride width b.pad)
    (short-is : short ≡ bytes_past (length (bits_of s b)) (order_of b) (row_start first step) width n) (there : short ≡ false) where
  pub all_there : rows_short s b g width n ≡ false
  all_there = sym (glyph_short s b g width n first step short first_is step_is short-is) ∙ there

  pub rows_found : Found s b g width n first step
  rows_found = record {
    rows = (some_there n width some).0;
    columns = (some_there n width some).1;
    first_is = first_is;
    step_is = step_is;
    there = all_there;
  }

  -- the first row begins in the file
  pub from_fits : length s < 2 ^ 64 → Fits w64 (b.bits + first)
  from_fits fits =
      let (rows, columns) = some_there n width some in
      let (c, m, e) = end_reached (order_of b) width columns in
      omega (arith, e, first_is, row_in_file s b g width n all_there 0 rows columns)

module _ (s : List ℕ) (b : BitmapData) (g width n first step : ℕ) (found : Found s b g width n first step) where
  module _ (o : Order) (o_is : o ≡ order_of b) where
    -- each row lies in the file
    pub rows_there : RowsIn s (b.bits + first) step (row_end o width) n
    rows_there = record { there = λ r h. rw (found.first_is, found.step_is, o_is) (row_in_file s b g width n found.there r h found.columns) }

    module _ (columns p stride scale : ℕ) (whole : columns ≤ whole_columns width) (bytes : Octets s) where
      in_file : (test : ℕ → Bool) → some_dot (glyph_bit s b g width) (place_at p stride scale) columns n test
          ≡ some_dot (row_bits s o (b.bits + first) step) (place_at p stride scale) columns n test
      unfolding row_bits row_start
      in_file test =
          rw (found.first_is, found.step_is, o_is) (dots_in_file s b g width n found.there bytes (place_at p stride scale) columns test whole)

      -- 16 is tested in the file
      pub past_in_file : (len : ℕ) (past : Bool) → past ≡ rows_past (row_bits s o (b.bits + first) step) (place_at p stride scale) columns n len
          → past ≡ pixel_past s b g width columns (place_at p stride scale) n len
      unfolding rows_past
      past_in_file len past is = is ∙ sym (in_file (λ j. leb len j))

      -- no pixel lies past what is lent, as none lies past the buffer
      pub lent_room : (buf : List ℕ) → pixel_past s b g width columns (place_at p stride scale) n (length buf) ≡ false
          → rows_past (row_bits s o (b.bits + first) step) (place_at 0 stride scale) columns n (length (take (length buf - p) (drop p buf))) ≡ false
      unfolding rows_past
      lent_room buf e =
          rw (lent_length p buf)
          (sym (past_room stride scale columns n (row_bits s o (b.bits + first) step) p (length buf)) ∙ sym (in_file (λ j. leb (length buf) j)) ∙ e)

      -- what is coloured in what is lent is coloured in the whole
      pub lent_drawn : (colour : ℕ) (buf new : List ℕ)
          → new ≡ painted (in_rows (row_bits s o (b.bits + first) step) (place_at 0 stride scale) columns n) colour (take (length buf - p) (drop p buf))
          → put_mid p (length buf - p) buf new ≡ painted (in_picture s b g width columns (place_at p stride scale) n) colour buf
      unfolding in_rows
      lent_drawn colour buf new e =
          let bits : ℕ → ℕ → Bool = row_bits s o (b.bits + first) step in
          lent_painted stride scale columns n bits p colour buf new e
          ∙ painted_same (λ i. some_dot bits (place_at p stride scale) columns n (λ j. eqb i j)) (in_picture s b g width columns (place_at p stride scale) n) colour buf
          (λ i l. sym (in_file (λ j. eqb i j)))

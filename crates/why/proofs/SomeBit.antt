-- A set bit, in plain logic; and it is what the search for a pixel beyond a buffer of none finds.
use Prim.Native.Nat.{ℕ, ◌+◌, ◌*◌, ◌^◌, ◌<◌}
use mathlib.Core.Path.{◌≡◌, sym, ◌∙◌}
use mathlib.Core.Bool.{Bool, true, false, ◌||◌}
use mathlib.Core.List.{List}
use mathlib.Core.Logic.{⊎_elim}
use native.Mathlib.Omega.{arith}
use lib.Dec.{leb, eqb}
use lib.ListN.{length}
use mir.Syntax.{w64}
use mir.Val.{Fits}
use borrow.Author.Tests.{le-leb, eqb-true}
use Rattle.reads.specs.Num.{Octets}
use Rattle.reads.proofs.Tests.{or_cases}
use Rattle.tables.specs.declared.BitmapData.{BitmapData}
use Rattle.bitmaps.specs.Paint.{some}
use Rattle.bitmaps.specs.Place.{Place, place_at}
use Rattle.bitmaps.specs.Units.{order_of}
use Rattle.bitmaps.specs.Rows.{row_stride}
use Rattle.bitmaps.specs.Ink.{rows_past, row_bits}
use Rattle.bitmaps.specs.Picture.{offset_of, rows_short, glyph_bit, pixel_past}
use Rattle.bitmaps.specs.declared.Order.{Order}
use Rattle.bitmaps.proofs.InFile.{row_in_file}
use Rattle.bitmaps.proofs.LentRows.{Found, some_there, past_in_file}
use Rattle.bitmaps.proofs.Pixels.{dot_true, dot_found}
use Rattle.bitmaps.proofs.RowEnds.{end_reached}
use Rattle.bitmaps.proofs.NoDots.{none_found}
use Rattle.bitmaps.proofs.Searching.{same_test, some_true, some_witness}
use Rattle.why.specs.Reasons.{some_bit}

module _ (s : List ℕ) (b : BitmapData) (g width n : ℕ) where
  abbrev bit : ℕ → ℕ → Bool
  bit r c = glyph_bit s b g width r c

  -- what is found is a set bit
  pub bit_found : some_bit s b g width n ≡ true → (r : ℕ) × (c : ℕ) × (r < n) × (c < width) × (glyph_bit s b g width r c ≡ true)
  unfolding some_bit
  bit_found e =
      let (r, h, row) = some_witness n (λ r. some width (λ c. bit r c)) e in
      let (c, l, set) = some_witness width (λ c. bit r c) row in
      (r, c, h, l, set)

  -- a set bit is found
  pub found_bit : (r c : ℕ) → r < n → c < width → glyph_bit s b g width r c ≡ true → some_bit s b g width n ≡ true
  unfolding some_bit
  found_bit r c h l set = some_true n (λ r. some width (λ c. bit r c)) r h (some_true width (λ c. bit r c) c l set)

  -- without a row or a column there is no pixel
  pub no_pixel : (at : Place) (len : ℕ) → eqb n 0 || eqb width 0 ≡ true → false ≡ pixel_past s b g width width at n len
  no_pixel at len e =
      sym (none_found (glyph_bit s b g width) at width n
      (λ r c a h l m. ⊎_elim (λ t. omega (arith, eqb-true n 0 t)) (λ t. omega (arith, eqb-true width 0 t)) (or_cases (eqb n 0) (eqb width 0) e))
      (λ j. leb len j))

  -- every set bit has a pixel beyond a buffer of none
  past_none : pixel_past s b g width width (place_at 0 1 1) n 0 ≡ some_bit s b g width n
  past_none =
      same_test (pixel_past s b g width width (place_at 0 1 1) n 0) (some_bit s b g width n)
      (λ e.
      let d = dot_found (glyph_bit s b g width) (place_at 0 1 1) width n (λ j. leb 0 j) e in
      found_bit d.row d.column d.row_in d.column_in d.is_set)
      (λ e.
      let (r, c, h, l, set) = bit_found e in
      dot_true (glyph_bit s b g width) (place_at 0 1 1) width n (λ j. leb 0 j) (record {
        row = r;
        column = c;
        down = 0;
        right = 0;
        row_in = h;
        column_in = l;
        down_in = omega arith;
        right_in = omega arith;
        is_set = set;
        passes = le-leb 0 (0 + r * 1 * 1 + c * 1 + 0 * 1 + 0) (omega arith);
      }))

  pub bit_past : (past : Bool) → past ≡ pixel_past s b g width width (place_at 0 1 1) n 0 → past ≡ some_bit s b g width n
  bit_past past is = is ∙ past_none

  module _ (first step : ℕ) (there : rows_short s b g width n ≡ false) (some-there-is : eqb n 0 || eqb width 0 ≡ false)
      (first_is : first ≡ offset_of s b g) where
    -- the first row begins in the file
    pub start_fits : length s < 2 ^ 64 → Fits w64 (b.bits + first)
    start_fits fits =
        let (rows, columns) = some_there n width some-there-is in
        let (c, m, e) = end_reached (order_of b) width columns in
        omega (arith, e, first_is, row_in_file s b g width n there 0 rows columns)

    pub pixel_searched : (o : Order) (p stride scale len : ℕ) (past : Bool) → o ≡ order_of b → step ≡ row_stride width b.pad → Octets s
        → past ≡ rows_past (row_bits s o (b.bits + first) step) (place_at p stride scale) width n len
        → past ≡ pixel_past s b g width width (place_at p stride scale) n len
    pixel_searched o p stride scale len past o_is step_is bytes is =
        let (rows, columns) = some_there n width some-there-is in
        let found : Found s b g width n first step = record { rows = rows; columns = columns; first_is = first_is; step_is = step_is; there = there } in
        past_in_file s b g width n first step found o o_is width p stride scale (omega arith) bytes len past is

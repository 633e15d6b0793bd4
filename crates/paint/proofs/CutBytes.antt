-- One byte of each row, row by row: cut to its first columns it colours what those of the row colour, and a blank one nothing.
use Prim.Native.Nat.{ℕ, ◌+◌, ◌*◌, ◌<◌, ◌^◌, min}
use mathlib.Core.Path.{◌≡◌, refl, sym, ap, ◌∙◌}
use mathlib.Core.Bool.{Bool, false, ◌&&◌, and_assoc}
use mathlib.Core.List.{List}
use native.Mathlib.Omega.{arith}
use lib.Dec.{eqb, leb, ltb}
use lib.ListN.{length}
use mir.Syntax.{w64}
use mir.Val.{Fits}
use Rattle.reads.specs.Num.{byte_at}
use Rattle.bitmaps.specs.Place.{Place, place_at, column_place}
use Rattle.bitmaps.specs.Paint.{some, painted}
use Rattle.bitmaps.specs.Units.{shown_byte}
use Rattle.bitmaps.specs.Rows.{column}
use Rattle.bitmaps.specs.Dots.{block_dot, row_dot}
use Rattle.bitmaps.specs.Ink.{in_row, row_past, rows_past, byte_bits, RowsIn}
use Rattle.bitmaps.specs.declared.Order.{Order}
use Rattle.bitmaps.proofs.Searching.{some_same}
use Rattle.bitmaps.proofs.Pieces.{some_cut}
use Rattle.bitmaps.proofs.Painting.{painted_same}
use Rattle.bitmaps.proofs.PictureRows.{Rowed, row_room, row_more}
use Rattle.bitmaps.proofs.Strips.{shown_bits, blank_row}
use Rattle.paint.specs.Ink.{FirstColumns}

-- the byte of row r lies in the file
module _ (s : List ℕ) (first step n r : ℕ) (rows : RowsIn s first step 1 n) (h : r < n) where
  pub held_there : first + r * step < length s
  held_there = omega (arith, rows.there r h)

  pub held_fits : length s < 2 ^ 64 → Fits w64 (first + r * step)
  held_fits l = omega (arith, held_there)

  pub step_fits : length s < 2 ^ 64 → Fits w64 (r * step)
  step_fits l = omega (arith, held_there)

module _ (s : List ℕ) (o : Order) (first step m n at stride scale colour : ℕ) (old buf : List ℕ) (r : ℕ)
    (so_far : Rowed (byte_bits s o first step) at stride scale (min 8 m) n colour old buf r) (h : r < n) where
  abbrev place : Place
  place = place_at (at + r * stride * scale) stride scale

  -- it is shown with its leftmost column at the top, and cut to the columns that count
  module _ (shown cut : ℕ) (cut_is : FirstColumns shown m cut) (shown-is : shown ≡ shown_byte o (byte_at s (first + r * step))) where
    cut_dots : (test : ℕ → Bool) → row_dot (column cut) place 8 test ≡ row_dot (byte_bits s o first step r) place (min 8 m) test
    unfolding row_dot
    cut_dots test =
        let dot : ℕ → Bool = λ k. block_dot (column_place place k) test in
        some_same 8 (λ k. column cut k && dot k) (λ k. ltb k m && (column shown k && dot k))
        (λ k l. rw (cut_is.keeps k l) (and_assoc (ltb k m) (column shown k) (dot k)))
        ∙ some_cut 8 m (λ k. column shown k && dot k)
        ∙ ap (λ (bit : ℕ → Bool). some (min 8 m) (λ k. bit k && dot k)) (sym (shown_bits s o first step r (byte_at s (first + r * step)) refl shown shown-is))

    pub cut_room : rows_past (byte_bits s o first step) (place_at at stride scale) (min 8 m) n (length old) ≡ false
        → row_past (column cut) (place_at (at + r * stride * scale) stride scale) 8 (length buf) ≡ false
    unfolding row_past
    cut_room e = cut_dots (λ j. leb (length buf) j) ∙ row_room (byte_bits s o first step) at stride scale (min 8 m) n colour old buf r so_far h e

    pub cut_more : (new drawn : List ℕ) → new ≡ drawn → drawn ≡ painted (in_row (column cut) (place_at (at + r * stride * scale) stride scale) 8) colour buf
        → Rowed (byte_bits s o first step) at stride scale (min 8 m) n colour old new (r + 1)
    unfolding in_row
    cut_more new drawn New-is drawn-is =
        row_more (byte_bits s o first step) at stride scale (min 8 m) n colour old buf r so_far h new
        (New-is ∙ drawn-is
        ∙ painted_same (in_row (column cut) place 8) (in_row (byte_bits s o first step r) place (min 8 m)) colour buf (λ i l. cut_dots (λ j. eqb i j)))

  pub blank_more : (new : List ℕ) → byte_at s (first + r * step) ≡ 0 → new ≡ buf → Rowed (byte_bits s o first step) at stride scale (min 8 m) n colour old new (r + 1)
  blank_more new none New-is =
      row_more (byte_bits s o first step) at stride scale (min 8 m) n colour old buf r so_far h new
      (New-is ∙ blank_row s o first step r (byte_at s (first + r * step)) refl place (min 8 m) colour buf none)

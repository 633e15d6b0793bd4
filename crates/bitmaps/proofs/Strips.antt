-- A picture strip by strip: of each row the byte that holds eight columns, from the first eight on. Which byte that is, and how many of
-- its columns count, is the same for all rows.
use Prim.Native.Nat.{ℕ, ◌+◌, ◌*◌, ◌-◌, ◌≤◌, ◌<◌, ◌^◌, min}
use mathlib.Core.Path.{◌≡◌, refl, sym, ap, ◌∙◌}
use mathlib.Core.Bool.{Bool, false, ◌&&◌, ◌||◌}
use mathlib.Core.List.{List}
use native.Mathlib.Nat.{add-mul, zero-add, not-suc-le-zero}
use native.Mathlib.Omega.{arith}
use lib.Dec.{eqb, leb}
use lib.ListN.{length}
use mir.Syntax.{w64}
use mir.Val.{Fits}
use Rattle.reads.specs.Num.{byte_at, Octets}
use Rattle.reads.proofs.Tests.{never, split, or_neither}
use Rattle.bitmaps.specs.Paint.{some, painted}
use Rattle.bitmaps.specs.Place.{Place, place_at, column_place}
use Rattle.bitmaps.specs.Units.{byte_of, shown_byte}
use Rattle.bitmaps.specs.Rows.{row_bytes, row_end, column}
use Rattle.bitmaps.specs.Dots.{block_dot, row_dot, some_dot}
use Rattle.bitmaps.specs.Ink.{in_row, in_rows, rows_past, row_start, row_bits, byte_bits, RowsIn}
use Rattle.bitmaps.specs.declared.Order.{Order}
use Rattle.bitmaps.proofs.Searching.{some_none, some_same, some_or}
use Rattle.bitmaps.proofs.Pieces.{some_pieces}
use Rattle.bitmaps.proofs.Painting.{length-painted, painted_none, painted_in_turn}
use Rattle.bitmaps.proofs.RowEnds.{end_above}
use Rattle.bitmaps.proofs.ShownBytes.{bit_of_byte, held_shown, blank_shown, blank_column}
use Rattle.bitmaps.proofs.Pixels.{dot_true, dot_found}
use Rattle.bitmaps.proofs.NoDots.{no_dots}

-- the byte that holds columns 8j to 8j + 7 has their bits
module _ (s : List ℕ) (o : Order) (first step j held : ℕ) (held-is : held ≡ byte_of o (8 * j)) where
  pub strip_bit : Octets s → (r k : ℕ) → k < 8 → row_bits s o first step r (8 * j + k) ≡ byte_bits s o (first + held) step r k
  unfolding row_bits byte_bits row_start
  strip_bit bytes r k h =
      let there : first + r * step + byte_of o (8 * j) ≡ first + held + r * step = omega (arith, held-is) in
      bit_of_byte s o (first + r * step) j k h
      ∙ ap (λ (b : ℕ). column b k) (held_shown s o (first + r * step) j bytes ∙ ap (λ (i : ℕ). shown_byte o (byte_at s i)) there)

  module _ (width n count : ℕ) (rows : RowsIn s first step (row_end o width) n) (whole : count ≡ row_bytes width) (h : j < count) where
    held_near : held < row_end o width
    held_near = rw held-is (end_above o width (8 * j) (omega arith))

    -- it lies in the file, in each row
    pub strip_in : RowsIn s (first + held) step 1 n
    strip_in = record { there = λ r l. omega (arith, held_near, rows.there r l) }

    pub strip_fits : length s < 2 ^ 64 → 1 ≤ n → Fits w64 (first + held)
    strip_fits l some = omega (arith, held_near, rows.there 0 (omega arith))

-- eight columns more of each row
module _ (bit strip : ℕ → ℕ → Bool) (p stride scale width n j : ℕ) (h : 8 * j < width)
    (is : (r k : ℕ) → k < 8 → bit r (8 * j + k) ≡ strip r k) where
  abbrev few : ℕ
  few = min 8 (width - 8 * j)

  row_pieces : (test : ℕ → Bool) (r : ℕ) → row_dot (bit r) (place_at (p + r * stride * scale) stride scale) (min (8 * (j + 1)) width) test
      ≡ row_dot (bit r) (place_at (p + r * stride * scale) stride scale) (min (8 * j) width) test
      || row_dot (strip r) (place_at (p + 8 * j * scale + r * stride * scale) stride scale) (min 8 (width - 8 * j)) test
  unfolding row_dot
  row_pieces test r =
      let row = p + r * stride * scale in
      let dot : ℕ → Bool = λ c. bit r c && block_dot (place_at (row + c * scale) stride scale) test in
      let more : min (8 * (j + 1)) width ≡ 8 * j + few = omega arith in
      let all : min (8 * j) width ≡ 8 * j = omega arith in
      ap (λ (c : ℕ). some c dot) more ∙ some_pieces (8 * j) few dot
      ∙ rw all
      (ap (λ (t : Bool). some (8 * j) dot || t)
      (some_same few (λ k. dot (8 * j + k)) (λ k. strip r k && block_dot (place_at (p + 8 * j * scale + r * stride * scale + k * scale) stride scale) test)
      (λ k l.
      let place : row + (8 * j + k) * scale ≡ p + 8 * j * scale + r * stride * scale + k * scale = omega (arith, add-mul (8 * j) k scale) in
      rw (is r k (omega arith), place) refl)))

  pub strip_pieces : (test : ℕ → Bool) → some_dot bit (place_at p stride scale) (min (8 * (j + 1)) width) n test
      ≡ some_dot bit (place_at p stride scale) (min (8 * j) width) n test || some_dot strip (place_at (p + 8 * j * scale) stride scale) (min 8 (width - 8 * j)) n test
  unfolding some_dot
  strip_pieces test =
      some_same n (λ r. row_dot (bit r) (place_at (p + r * stride * scale) stride scale) (min (8 * (j + 1)) width) test)
      (λ r. row_dot (bit r) (place_at (p + r * stride * scale) stride scale) (min (8 * j) width) test
      || row_dot (strip r) (place_at (p + 8 * j * scale + r * stride * scale) stride scale) (min 8 (width - 8 * j)) test) (λ r l. row_pieces test r)
      ∙ some_or n (λ r. row_dot (bit r) (place_at (p + r * stride * scale) stride scale) (min (8 * j) width) test)
      (λ r. row_dot (strip r) (place_at (p + 8 * j * scale + r * stride * scale) stride scale) (min 8 (width - 8 * j)) test)

-- where no pixel passes, none of the first columns does
fewer_columns : (bit : ℕ → ℕ → Bool) (at : Place) (w width n : ℕ) (test : ℕ → Bool) → w ≤ width → some_dot bit at width n test ≡ false
    → some_dot bit at w n test ≡ false
fewer_columns bit at w width n test h e =
    split (some_dot bit at w n test)
    (λ t.
    let d = dot_found bit at w n test t in
    never (sym e ∙ dot_true bit at width n test (record {
      row = d.row;
      column = d.column;
      down = d.down;
      right = d.right;
      row_in = d.row_in;
      column_in = omega (arith, d.column_in);
      down_in = d.down_in;
      right_in = d.right_in;
      is_set = d.is_set;
      passes = d.passes;
    })))
    (λ t. t)

-- the first 8j columns of all rows are coloured
pub record Stripped (s : List ℕ) (o : Order) (first step stride scale width n colour : ℕ) (old buf : List ℕ) (j : ℕ) : Type 0 where
  pub inside : 8 * j < width + 8
  pub same : length buf ≡ length old
  pub is : buf ≡ painted (in_rows (row_bits s o first step) (place_at 0 stride scale) (min (8 * j) width) n) colour old

module _ (s : List ℕ) (o : Order) (first step stride scale width n colour : ℕ) (old : List ℕ) where
  abbrev bits : ℕ → ℕ → Bool
  bits = row_bits s o first step

  pub no_strip : Stripped s o first step stride scale width n colour old old 0
  unfolding in_rows
  no_strip =
      let none : min (8 * 0) width ≡ 0 = omega arith in
      record {
        inside = omega arith;
        same = refl;
        is = rw none (no_dots bits (place_at 0 stride scale) 0 n colour old (λ r c a h l m. not-suc-le-zero l));
      }

  module _ (buf : List ℕ) (j : ℕ) (so_far : Stripped s o first step stride scale width n colour old buf j) where
    pub all_strips : width ≤ 8 * j → buf ≡ painted (in_rows (row_bits s o first step) (place_at 0 stride scale) width n) colour old
    all_strips h = let e : min (8 * j) width ≡ width = omega arith in rw e at so_far.is

    -- the next strip: the byte `held` of each row, of which `few` columns count
    module _ (held few : ℕ) (h : 8 * j < width) (held-is : held ≡ byte_of o (8 * j)) (bytes : Octets s) (few-is : few ≡ min 8 (width - 8 * j)) where
      abbrev strip : ℕ → ℕ → Bool
      strip = byte_bits s o (first + held) step

      pieces : (test : ℕ → Bool) → some_dot bits (place_at 0 stride scale) (min (8 * (j + 1)) width) n test
          ≡ some_dot bits (place_at 0 stride scale) (min (8 * j) width) n test || some_dot strip (place_at (8 * j * scale) stride scale) few n test
      pieces test =
          rw few-is
          (rw (zero-add (8 * j * scale)) at (strip_pieces bits strip 0 stride scale width n j h (strip_bit s o first step j held held-is bytes) test))

      pub strip_room : rows_past (row_bits s o first step) (place_at 0 stride scale) width n (length old) ≡ false
          → rows_past (byte_bits s o (first + held) step) (place_at (8 * j * scale) stride scale) few n (length buf) ≡ false
      unfolding rows_past
      strip_room e =
          let past : ℕ → Bool = λ i. leb (length old) i in
          rw so_far.same
          (or_neither (some_dot bits (place_at 0 stride scale) (min (8 * j) width) n past) (some_dot strip (place_at (8 * j * scale) stride scale) few n past)
          (sym (pieces past) ∙ fewer_columns bits (place_at 0 stride scale) (min (8 * (j + 1)) width) width n past (omega arith) e)).1

      pub strip_more : (new : List ℕ) → new ≡ painted (in_rows (byte_bits s o (first + held) step) (place_at (8 * j * scale) stride scale) few n) colour buf
          → Stripped s o first step stride scale width n colour old new (j + 1)
      unfolding in_rows
      strip_more new e =
          let in_first : ℕ → Bool = in_rows bits (place_at 0 stride scale) (min (8 * j) width) n in
          let in_strip : ℕ → Bool = in_rows strip (place_at (8 * j * scale) stride scale) few n in
          let in_more : ℕ → Bool = in_rows bits (place_at 0 stride scale) (min (8 * (j + 1)) width) n in
          record {
            inside = omega arith;
            same = ap length e ∙ length-painted in_strip colour buf ∙ so_far.same;
            is = painted_in_turn colour in_first in_strip in_more old buf new (λ i. pieces (λ k. eqb i k)) so_far.is e;
          }

-- one byte of each row, row by row: of a blank byte nothing is coloured
module _ (s : List ℕ) (o : Order) (first step r held : ℕ) (held-is : held ≡ byte_at s (first + r * step)) where
  pub shown_bits : (shown : ℕ) → shown ≡ shown_byte o held → byte_bits s o first step r ≡ column shown
  unfolding byte_bits row_start
  shown_bits shown is = rw (is, held-is) refl

  pub blank_row : (at : Place) (width colour : ℕ) (buf : List ℕ) → held ≡ 0 → buf ≡ painted (in_row (byte_bits s o first step r) at width) colour buf
  unfolding in_row row_dot
  blank_row at width colour buf none =
      let blank : shown_byte o held ≡ 0 = ap (shown_byte o) none ∙ blank_shown o in
      rw (shown_bits (shown_byte o held) refl, blank)
      (sym (painted_none (in_row (column 0) at width) colour buf
      (λ i l. some_none width (λ c. column 0 c && block_dot (column_place at c) (λ k. eqb i k)) (λ c m. rw (blank_column c) refl))))

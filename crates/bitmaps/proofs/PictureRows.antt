-- A picture row by row: a row passes no test that no pixel of the picture passes, and it is what one row more colours.
use Prim.Native.Nat.{ℕ, ◌+◌, ◌*◌, ◌≤◌, ◌<◌}
use mathlib.Core.Path.{◌≡◌, refl, ap, ◌∙◌}
use mathlib.Core.Bool.{Bool, false}
use mathlib.Core.List.{List}
use native.Mathlib.Omega.{arith}
use lib.Dec.{eqb, leb}
use lib.ListN.{length}
use Rattle.bitmaps.specs.Paint.{painted}
use Rattle.bitmaps.specs.Place.{place_at}
use Rattle.bitmaps.specs.Dots.{row_dot, some_dot}
use Rattle.bitmaps.specs.Ink.{in_row, in_rows, row_past, rows_past}
use Rattle.bitmaps.proofs.Searching.{some_false}
use Rattle.bitmaps.proofs.Painting.{length-painted, painted_zero, painted_more}

-- the first r of n rows are coloured
pub record Rowed (bit : ℕ → ℕ → Bool) (at stride scale width n colour : ℕ) (old buf : List ℕ) (r : ℕ) : Type 0 where
  pub inside : r ≤ n
  pub same : length buf ≡ length old
  pub is : buf ≡ painted (in_rows bit (place_at at stride scale) width r) colour old

module _ (bit : ℕ → ℕ → Bool) (at stride scale width n colour : ℕ) (old : List ℕ) where
  pub no_rows : Rowed bit at stride scale width n colour old old 0
  unfolding in_rows some_dot
  no_rows = record {
    inside = omega arith;
    same = refl;
    is = painted_zero (λ i r. row_dot (bit r) (place_at (at + r * stride * scale) stride scale) width (λ j. eqb i j)) colour old;
  }

  module _ (buf : List ℕ) (r : ℕ) (so_far : Rowed bit at stride scale width n colour old buf r) where
    pub all_rows : n ≤ r → buf ≡ painted (in_rows bit (place_at at stride scale) width n) colour old
    all_rows h = let e : r ≡ n = omega (arith, so_far.inside) in rw e at so_far.is

    module _ (h : r < n) where
      pub row_room : rows_past bit (place_at at stride scale) width n (length old) ≡ false
          → row_past (bit r) (place_at (at + r * stride * scale) stride scale) width (length buf) ≡ false
      unfolding row_past rows_past some_dot
      row_room e =
          rw so_far.same
          (some_false n (λ k. row_dot (bit k) (place_at (at + k * stride * scale) stride scale) width (λ j. leb (length old) j)) e r h)

      pub row_more : (new : List ℕ) → new ≡ painted (in_row (bit r) (place_at (at + r * stride * scale) stride scale) width) colour buf
          → Rowed bit at stride scale width n colour old new (r + 1)
      unfolding in_row in_rows some_dot
      row_more new e =
          let rule : ℕ → ℕ → Bool = λ i k. row_dot (bit k) (place_at (at + k * stride * scale) stride scale) width (λ j. eqb i j) in
          record {
            inside = omega arith;
            same = ap length e ∙ length-painted (λ i. rule i r) colour buf ∙ so_far.same;
            is = e ∙ ap (painted (λ i. rule i r) colour) so_far.is ∙ painted_more rule r colour old;
          }

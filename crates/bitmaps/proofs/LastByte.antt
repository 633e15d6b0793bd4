-- 14 is one comparison: of all the bytes that rows need, the farthest is the last that the last row needs.
use mathlib.Core.Path.{◌≡◌, sym, ◌∙◌}
use mathlib.Core.Bool.{Bool, false}
use mathlib.Core.List.{List}
use Prim.Native.Nat.{ℕ, ◌+◌, ◌-◌, ◌*◌, ◌^◌, ◌≤◌, ◌<◌}
use native.Mathlib.Nat.{mul-le-mul, mul-le-mul_right}
use native.Mathlib.Omega.{arith}
use lib.ListN.{length}
use lib.Dec.{ltb}
use mir.Syntax.{w64}
use mir.Val.{Fits}
use borrow.Author.Tests.{ltb-true, ltb-false}
use Rattle.reads.proofs.Tests.{split}
use Rattle.tables.specs.declared.BitmapData.{BitmapData}
use Rattle.bitmaps.specs.Units.{order_of}
use Rattle.bitmaps.specs.Rows.{row_stride, row_end, bytes_past}
use Rattle.bitmaps.specs.Ink.{row_start}
use Rattle.bitmaps.specs.Picture.{bits_of, offset_of, row_of, rows_short}
use Rattle.bitmaps.specs.declared.Order.{Order}
use Rattle.bitmaps.proofs.RowsInside.{bytes_inside, inside_bytes}
use Rattle.bitmaps.proofs.RowEnds.{end_above, end_reached}

module _ (size : ℕ) (o : Order) (first step : ℕ) where
  pub no_rows : (width n : ℕ) → n ≡ 0 → false ≡ bytes_past size o (row_start first step) width n
  no_rows width n e = sym (inside_bytes size o (row_start first step) width n (λ r c h l. absurd (omega arith)))

  pub no_columns : (width n : ℕ) → width ≡ 0 → false ≡ bytes_past size o (row_start first step) width n
  no_columns width n e = sym (inside_bytes size o (row_start first step) width n (λ r c h l. absurd (omega arith)))

  farthest : (width n : ℕ) → 0 < width → 0 < n → bytes_past size o (row_start first step) width n ≡ ltb size (first + (n - 1) * step + row_end o width)
  unfolding row_start
  farthest width n w h =
      let row = row_start first step in
      let last = first + (n - 1) * step + row_end o width in
      split (ltb size last)
      (λ t. split (bytes_past size o row width n) (λ u. u ∙ sym t)
      (λ u.
      let (c, l, e) = end_reached o width w in
      absurd (omega (arith, ltb-true size last t, e, bytes_inside size o row width n u (n - 1) c (omega arith) l))))
      (λ t. inside_bytes size o row width n
      (λ r c k l.
      let above : r * step ≤ (n - 1) * step = mul-le-mul_right step (omega arith) in
      omega (arith, ltb-false size last t, end_above o width c l))
      ∙ sym t)

-- where the last row and its last byte lie: no sum leaves 64 bits
module _ (n stride : ℕ) (rows : n < 2 ^ 16) (bytes : stride < 2 ^ 32) where
  last_row : (n - 1) * stride ≤ 65535 * 4294967295
  last_row = mul-le-mul {n₂ = 65535} {m₂ = 4294967295} (omega arith) (omega arith)

  pub rows_before_fit : Fits w64 ((n - 1) * stride)
  rows_before_fit = omega (arith, last_row)

  pub last_row_fits : (first : ℕ) → first < 2 ^ 32 → Fits w64 (first + (n - 1) * stride)
  last_row_fits first h = omega (arith, last_row)

  pub last_byte_fits : (first end : ℕ) → first < 2 ^ 32 → end < 2 ^ 32 → Fits w64 (first + (n - 1) * stride + end)
  last_byte_fits first end h k = omega (arith, last_row)

pub by_last_byte : (s : List ℕ) (b : BitmapData) (o : Order) (width n first step end size : ℕ) → (n ≡ 0 → ⊥) → (width ≡ 0 → ⊥)
    → o ≡ order_of b → end ≡ row_end o width → size ≡ length (bits_of s b)
    → ltb size (first + (n - 1) * step + end) ≡ bytes_past (length (bits_of s b)) (order_of b) (row_start first step) width n
by_last_byte s b o width n first step end size rows columns order_is end_is size_is =
    rw (end_is, order_is, size_is) (sym (farthest (length (bits_of s b)) (order_of b) first step width n (omega arith) (omega arith)))

-- a glyph's rows begin where the table says, as far apart as their row stride is long

pub last_byte : (s : List ℕ) (b : BitmapData) (g width n : ℕ) → 0 < width → 0 < n
    → rows_short s b g width n ≡ ltb (length (bits_of s b)) (row_of s b g width (n - 1) + row_end (order_of b) width)
unfolding rows_short row_start
last_byte s b g width n w h = farthest (length (bits_of s b)) (order_of b) (offset_of s b g) (row_stride width b.pad) width n w h

pub glyph_short : (s : List ℕ) (b : BitmapData) (g width n first step : ℕ) (short : Bool) → first ≡ offset_of s b g → step ≡ row_stride width b.pad
    → short ≡ bytes_past (length (bits_of s b)) (order_of b) (row_start first step) width n → short ≡ rows_short s b g width n
unfolding rows_short row_start
glyph_short s b g width n first step short first_is step_is is = rw (first_is, step_is) at is

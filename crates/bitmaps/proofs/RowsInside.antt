-- What it says that 14 does not refuse: the byte of every column of every row lies in the bitmap data.
use mathlib.Core.Path.{◌≡◌, sym, ◌∙◌}
use mathlib.Core.Bool.{Bool, false}
use mathlib.Core.List.{List}
use Prim.Native.Nat.{ℕ, ◌+◌, ◌<◌}
use native.Mathlib.Omega.{arith}
use lib.ListN.{length}
use lib.Dec.{leb}
use borrow.Author.Tests.{leb-true, leb-false}
use Rattle.reads.proofs.Tests.{never, split}
use Rattle.tables.specs.declared.BitmapData.{BitmapData}
use Rattle.bitmaps.specs.Paint.{some}
use Rattle.bitmaps.specs.Units.{order_of, byte_of}
use Rattle.bitmaps.specs.Rows.{bytes_past}
use Rattle.bitmaps.specs.Picture.{bits_of, row_of, rows_short}
use Rattle.bitmaps.specs.declared.Order.{Order}
use Rattle.bitmaps.proofs.Searching.{some_true, some_witness}

module _ (size : ℕ) (o : Order) (row : ℕ → ℕ) (width n : ℕ) where
  abbrev past : ℕ → ℕ → Bool
  past r c = leb size (row r + byte_of o c)

  pub bytes_inside : bytes_past size o row width n ≡ false → (r c : ℕ) → r < n → c < width → row r + byte_of o c < size
  unfolding bytes_past
  bytes_inside e r c h l =
      split (past r c) (λ t. never (sym e ∙ some_true n (λ r. some width (past r)) r h (some_true width (past r) c l t)))
      (λ t. leb-false size (row r + byte_of o c) t)

  pub inside_bytes : ((r c : ℕ) → r < n → c < width → row r + byte_of o c < size) → bytes_past size o row width n ≡ false
  unfolding bytes_past
  inside_bytes f =
      split (some n (λ r. some width (past r)))
      (λ t. let (r, h, found) = some_witness n (λ r. some width (past r)) t in
      let (c, l, e) = some_witness width (past r) found in
      absurd (omega (arith, f r c h l, leb-true size (row r + byte_of o c) e)))
      (λ t. t)

module _ (s : List ℕ) (b : BitmapData) (g width n : ℕ) where
  pub rows_inside : rows_short s b g width n ≡ false → (r c : ℕ) → r < n → c < width → row_of s b g width r + byte_of (order_of b) c < length (bits_of s b)
  unfolding rows_short
  rows_inside e = bytes_inside (length (bits_of s b)) (order_of b) (row_of s b g width) width n e

  pub inside_rows : ((r c : ℕ) → r < n → c < width → row_of s b g width r + byte_of (order_of b) c < length (bits_of s b)) → rows_short s b g width n ≡ false
  unfolding rows_short
  inside_rows f = inside_bytes (length (bits_of s b)) (order_of b) (row_of s b g width) width n f

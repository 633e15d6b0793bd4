-- The bytes of a glyph's rows: how many there are, and one byte or one row more.
use mathlib.Core.Path.{◌≡◌, refl, sym, ap, ◌∙◌}
use mathlib.Core.List.{List, [], ◌∷◌, ◌++◌, append-nil, append_assoc}
use Prim.Native.Nat.{ℕ, zero, suc, ◌+◌, ◌*◌, ◌≤◌, ◌<◌}
use native.Mathlib.Nat.{zero-add, add-zero, zero-mul, suc-mul, mul-le-mul_right}
use native.Mathlib.Numerals.{add-one}
use native.Mathlib.Omega.{arith}
use lib.ListN.{length, length-append}
use Rattle.tables.specs.declared.BitmapData.{BitmapData}
use Rattle.bitmaps.specs.Units.{order_of, row_byte}
use Rattle.bitmaps.specs.Rows.{row_bytes}
use Rattle.bitmaps.specs.Picture.{bits_of, row_of}
use Rattle.bitmaps.specs.declared.Order.{Order}
use Rattle.place.specs.declared.GlyphInfo.{GlyphInfo}
use Rattle.frames.specs.Hex.{hex_all}
use Rattle.frames.specs.Frames.{row_from, rows_from}
use Rattle.frames.proofs.HexRuns.{hex-append}

module _ (bits : List ℕ) (o : Order) (row : ℕ) where
  pub length_row : (j n : ℕ) → length (row_from bits o row j n) ≡ n
  unfolding row_from
  length_row j zero = refl
  length_row j (suc n) = ap suc (length_row (j + 1) n)

  row_more : (j n : ℕ) → row_from bits o row j (suc n) ≡ row_from bits o row j n ++ (row_byte bits o row (j + n) ∷ [])
  unfolding row_from
  row_more j zero = rw (add-zero j) refl
  row_more j (suc n) =
      let e : j + 1 + n ≡ j + suc n = omega arith in
      ap (λ (l : List ℕ). row_byte bits o row j ∷ l) (rw (← e) (row_more (j + 1) n))

  -- one byte more
  pub row_next : (n : ℕ) → row_from bits o row 0 (n + 1) ≡ row_from bits o row 0 n ++ (row_byte bits o row n ∷ [])
  row_next n = rw add-one (row_more 0 n ∙ rw (zero-add n) refl)

module _ (s : List ℕ) (b : BitmapData) (i : GlyphInfo) where
  -- the bytes of row r that hold columns
  abbrev pub row_at : ℕ → List ℕ
  row_at r = row_from (bits_of s b) (order_of b) (row_of s b i.glyph.0 i.width r) 0 (row_bytes i.width)

  pub length_rows : (r n : ℕ) → length (rows_from s b i r n) ≡ n * row_bytes i.width
  unfolding rows_from
  length_rows r zero = sym (zero-mul (row_bytes i.width))
  length_rows r (suc n) =
      length-append (row_at r) (rows_from s b i (r + 1) n)
      ∙ rw (
        length_row (bits_of s b) (order_of b) (row_of s b i.glyph.0 i.width r) 0 (row_bytes i.width),
        length_rows (r + 1) n,
        suc-mul n (row_bytes i.width),
      )
      (omega arith)

  rows_more : (r n : ℕ) → rows_from s b i r (suc n) ≡ rows_from s b i r n ++ row_at (r + n)
  unfolding rows_from
  rows_more r zero = rw (add-zero r) (append-nil (row_at r))
  rows_more r (suc n) =
      let e : r + 1 + n ≡ r + suc n = omega arith in
      ap (λ (l : List ℕ). row_at r ++ l) (rw (← e) (rows_more (r + 1) n))
      ∙ sym (append_assoc (row_at r) (rows_from s b i (r + 1) n) (row_at (r + suc n)))

  -- the digits of one row more
  pub rows_next : (n : ℕ) → hex_all (rows_from s b i 0 (n + 1)) ≡ hex_all (rows_from s b i 0 n) ++ hex_all (row_at n)
  rows_next n = rw (add-one, rows_more 0 n, zero-add n) (hex-append (rows_from s b i 0 n) (row_at n))

pub one_more : (k w : ℕ) → (k + 1) * w ≡ k * w + w
one_more k w = rw (add-one, suc-mul k w) refl

-- one row more has room where all rows have
pub row_room : (k height w : ℕ) → k < height → k * w + w ≤ height * w
row_room k height w h = let e : (k + 1) * w ≤ height * w = mul-le-mul_right w (omega arith) in omega (arith, one_more k w)

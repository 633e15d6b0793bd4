-- The pixels and rows that drawing and unpacking take one after the other, as the contracts of their inner functions name them.
use Rattle.std.specs.Prelude.{ℕ, ◌+◌, ◌*◌, ◌≤◌, ◌<◌, Bool, true, List, eqb, leb, length}
use Rattle.reads.specs.Num.{byte_at}
use Rattle.bitmaps.specs.Place.{Place}
use Rattle.bitmaps.specs.Units.{bit_at, shown_byte}
use Rattle.bitmaps.specs.Rows.{column}
use Rattle.bitmaps.specs.Dots.{row_dot, some_dot}
use Rattle.bitmaps.specs.declared.Order.{Order}

-- i is a pixel of one row of bits, of the first n rows
unfoldable pub in_row : (ℕ → Bool) → Place → ℕ → ℕ → Bool
in_row bit at width i = row_dot bit at width (λ j. eqb i j)

unfoldable pub in_rows : (ℕ → ℕ → Bool) → Place → ℕ → ℕ → ℕ → Bool
in_rows bit at width n i = some_dot bit at width n (λ j. eqb i j)

-- a pixel of them lies past a buffer of `len` pixels
unfoldable pub row_past : (ℕ → Bool) → Place → ℕ → ℕ → Bool
row_past bit at width len = row_dot bit at width (λ j. leb len j)

unfoldable pub rows_past : (ℕ → ℕ → Bool) → Place → ℕ → ℕ → ℕ → Bool
rows_past bit at width n len = some_dot bit at width n (λ j. leb len j)

-- bits that are all set
unfoldable pub every_bit : ℕ → ℕ → Bool
every_bit r c = true

-- where row r begins: `first`, and `step` bytes on for each row
unfoldable pub row_start : ℕ → ℕ → ℕ → ℕ
row_start first step r = first + r * step

-- the bits of the rows that begin there
unfoldable pub row_bits : List ℕ → Order → ℕ → ℕ → ℕ → ℕ → Bool
row_bits s o first step r = bit_at s o (row_start first step r)

-- the bits of one byte of each row, which stands there
unfoldable pub byte_bits : List ℕ → Order → ℕ → ℕ → ℕ → ℕ → Bool
byte_bits s o first step r = column (shown_byte o (byte_at s (row_start first step r)))

-- the first `count` bytes of each of the n rows lie in these bytes
pub record RowsIn (s : List ℕ) (first step count n : ℕ) : Type 0 where
  pub there : (r : ℕ) → r < n → first + r * step + count ≤ length s

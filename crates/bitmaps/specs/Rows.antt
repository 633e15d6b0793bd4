-- The rows of a bitmap in its data: how far apart they begin, and which of their bytes are needed. From document 01: "Row stride is
-- ceil(width / 8) raised to the row pad"; refusal 14 "a needed bitmap byte lies beyond the bitmap data". From document 02: "14 concerns
-- the byte that really holds the column".
use Rattle.std.specs.Prelude.{ℕ, zero, suc, ◌+◌, ◌-◌, ◌*◌, ◌/◌, ◌%◌, ◌^◌, max, Bool, leb, eqb}
use Rattle.bitmaps.specs.Paint.{some}
use Rattle.bitmaps.specs.Units.{byte_of}
use Rattle.bitmaps.specs.declared.Order.{Order}

-- "ceil(width / 8)"
abbrev pub row_bytes : ℕ → ℕ
row_bytes width = (width + 7) / 8

-- "raised to the row pad": to a multiple of it
abbrev pub row_stride : ℕ → ℕ → ℕ
row_stride width pad = (row_bytes width + (pad - 1)) / pad * pad

-- the bit at column k of a byte: "top bit leftmost"
unfoldable pub column : ℕ → ℕ → Bool
column byte k = eqb (byte / 2 ^ (7 - k) % 2) 1

-- how many bytes from a row's start on its first `width` columns need: up to the last byte that holds one of them
unfoldable pub row_end : Order → ℕ → ℕ
row_end o zero = 0
row_end o (suc c) = max (row_end o c) (byte_of o c + 1)

-- 14, in data of `size` bytes: the byte that holds some column of the first n rows, of which row r begins at `row r`, lies beyond it
unfoldable pub bytes_past : ℕ → Order → (ℕ → ℕ) → ℕ → ℕ → Bool
bytes_past size o row width n = some n (λ r. some width (λ c. leb size (row r + byte_of o c)))

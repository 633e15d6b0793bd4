-- A table's format word. From document 01: "Format bits are named by their value", and the public description's format masks.
use Rattle.std.specs.Prelude.{ℕ, ◌/◌, ◌%◌, ◌^◌, Bool, false, List, eqb}
use Rattle.reads.specs.Num.{u32_at}

-- "every format word [is] little-endian"
abbrev pub format_at : List ℕ → ℕ → ℕ
format_at s at = u32_at false s at

-- "Byte order is big-endian when format bit 4 is set"
abbrev pub big_bit : ℕ → Bool
big_bit format = eqb (format / 4 % 2) 1

-- format bit 256, of metrics: compressed
abbrev pub compressed_bit : ℕ → Bool
compressed_bit format = eqb (format / 256 % 2) 1

-- format bit 8, of bitmaps: the top bit is leftmost
abbrev pub top_bit : ℕ → Bool
top_bit format = eqb (format / 8 % 2) 1

-- format & 3
abbrev pub pad_code : ℕ → ℕ
pad_code format = format % 4

-- "a row pad of 1, 2, 4 or 8 bytes"
abbrev pub pad_of : ℕ → ℕ
pad_of format = 2 ^ pad_code format

-- the scan unit bits
abbrev pub unit_code : ℕ → ℕ
unit_code format = format / 16 % 4

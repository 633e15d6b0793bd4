-- A row's pixels. From document 02: "Some fonts are least bit first, some have scan units of two or four bytes (codes 1 and 2; 0 is one
-- byte). A row is units from its start, each a number in the table's byte order; its leftmost pixel is the top bit, or the lowest bit when
-- format bit 8 is clear."
use Rattle.std.specs.Prelude.{ℕ, zero, suc, ◌+◌, ◌-◌, ◌*◌, ◌/◌, ◌%◌, ◌^◌, Bool, cond, ◌&&◌, List, eqb}
use Rattle.reads.specs.Num.{digit_index, digit_at, digits}
use Rattle.tables.specs.declared.BitmapData.{BitmapData}
use Rattle.bitmaps.specs.declared.Order.{Order}

-- the order of a table's rows
abbrev pub order_of : BitmapData → Order
order_of b = record { unit = b.unit; big = b.big; top = b.top }

-- one-byte units, top bit leftmost, which is document 01's order
abbrev pub usual : Order → Bool
usual o = eqb o.unit 0 && o.top

-- "scan units of two or four bytes (codes 1 and 2; 0 is one byte)"; a table with another code is not read (13)
abbrev pub unit_bytes : ℕ → ℕ
unit_bytes code = cond (eqb code 0) 1 (cond (eqb code 1) 2 4)

abbrev pub unit_columns : Order → ℕ
unit_columns o = 8 * unit_bytes o.unit

-- "A row is units from its start": how many bytes behind it the unit of column c begins
abbrev pub unit_start : Order → ℕ → ℕ
unit_start o c = c / unit_columns o * unit_bytes o.unit

-- "each a number in the table's byte order"; bytes past the data's end count 0
abbrev pub unit_at : List ℕ → Order → ℕ → ℕ
unit_at bits o at = digits (digit_at o.big (unit_bytes o.unit) bits at) (unit_bytes o.unit)

-- which bit of its unit, from the top one on, column c shows: "its leftmost pixel is the top bit, or the lowest bit when format bit 8 is
-- clear"
abbrev pub bit_index : Order → ℕ → ℕ
bit_index o c = digit_index o.top (unit_columns o) (c % unit_columns o)

-- the pixel at column c of the row that begins at byte `row` of the data: whether that bit is set
unfoldable pub bit_at : List ℕ → Order → ℕ → ℕ → Bool
bit_at bits o row c = eqb (unit_at bits o (row + unit_start o c) / 2 ^ (unit_columns o - 1 - bit_index o c) % 2) 1

-- "the byte that really holds the column": which byte of the row has that bit
unfoldable pub byte_of : Order → ℕ → ℕ
byte_of o c = unit_start o c + digit_index o.big (unit_bytes o.unit) (bit_index o c / 8)

-- n bits as a number, the first at its top
unfoldable pub packed : (ℕ → Bool) → ℕ → ℕ
packed bit zero = 0
packed bit (suc n) = packed bit n * 2 + cond (bit n) 1 0

-- columns 8j to 8j + 7 of that row as a byte: "top bit leftmost"
unfoldable pub row_byte : List ℕ → Order → ℕ → ℕ → ℕ
row_byte bits o row j = packed (λ k. bit_at bits o row (8 * j + k)) 8

-- the lowest n bits of a number in the other order: "Byte reversal uses a sixteen-entry table of reversed half bytes"
unfoldable pub turned : ℕ → ℕ → ℕ
turned n x = packed (λ k. eqb (x / 2 ^ k % 2) 1) n

-- a byte of a row with its leftmost column at the top
abbrev pub shown_byte : Order → ℕ → ℕ
shown_byte o byte = cond o.top byte (turned 8 byte)

-- Which codes lie outside a code table's bounds. From document 02: "outside the first-byte bounds (unless both are 0), outside the
-- second-byte bounds (the whole code if they are)".
use Rattle.std.specs.Prelude.{ℕ, ◌/◌, ◌%◌, Bool, cond, not, ◌&&◌}
use Rattle.reads.specs.Range.{between}
use Rattle.tables.specs.declared.EncodingData.{EncodingData}
use Rattle.lookup.specs.Lookup.{one_byte}

-- "outside the first-byte bounds (unless both are 0)"
unfoldable pub first_outside : EncodingData → ℕ → Bool
first_outside c code = not (one_byte c) && not (between c.low1 c.high1 (code / 256))

-- what the second-byte bounds are for: the second byte, or "the whole code if they are", the first-byte bounds, both 0
abbrev pub second_byte : EncodingData → ℕ → ℕ
second_byte c code = cond (one_byte c) code (code % 256)

-- "outside the second-byte bounds"
unfoldable pub second_outside : EncodingData → ℕ → Bool
second_outside c code = not (between c.low2 c.high2 (second_byte c code))

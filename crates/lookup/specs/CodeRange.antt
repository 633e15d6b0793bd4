-- Where a table's codes lie: no other code has a glyph (proofs/OutsideRange.antt). So what is asked of every code, as vetting and the
-- dump do, need only be asked of these.
use Rattle.std.specs.Prelude.{ℕ, ◌+◌, ◌*◌, min, cond}
use Rattle.tables.specs.declared.EncodingData.{EncodingData}
use Rattle.lookup.specs.Lookup.{one_byte}
use Rattle.lookup.specs.declared.CodeRange.{CodeRange}

-- the least code that the bounds allow
abbrev pub least_code : EncodingData → ℕ
least_code c = cond (one_byte c) c.low2 (256 * c.low1)

-- the first code past the greatest that they allow
abbrev pub past_codes : EncodingData → ℕ
past_codes c = cond (one_byte c) (c.high2 + 1) (256 * c.high1 + 256)

-- "any code above 65,535 [has] no glyph"
unfoldable pub code_range : EncodingData → CodeRange
code_range c = record { low = record { 0 = least_code c }; end = record { 0 = min (past_codes c) 65536 } }

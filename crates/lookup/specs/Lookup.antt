-- The glyph of a character code. From document 01, "Reading the tables", codes; refusal 9 "no glyph for this code".
use Rattle.std.specs.Prelude.{ℕ, ◌+◌, ◌-◌, ◌*◌, ◌/◌, ◌%◌, Bool, cond, ◌&&◌, List, [], ◌∷◌, ltb, eqb, pos}
use Rattle.reads.specs.Num.{u16_at}
use Rattle.reads.specs.Range.{between}
use Rattle.reads.specs.Said.{Said, refusal, says, refuses}
use Rattle.tables.specs.declared.EncodingData.{EncodingData}
use Rattle.lookup.specs.declared.Found.{Found}
use Rattle.lookup.specs.declared.Slot.{Slot}

-- "If both first-byte bounds are 0"
abbrev pub one_byte : EncodingData → Bool
one_byte c = eqb c.low1 0 && eqb c.high1 0

-- "the index is code - low2, for low2 <= code <= high2"
abbrev pub slot_whole : EncodingData → ℕ → Slot
slot_whole c code = cond (between c.low2 c.high2 code) (Slot.At (code - c.low2)) Slot.Nothing

-- "Otherwise both bytes must lie in bounds, and the index is (byte1 - low1)(high2 - low2 + 1) + byte2 - low2"
abbrev pub slot_bytes : EncodingData → ℕ → ℕ → Slot
slot_bytes c byte1 byte2 =
    cond (between c.low1 c.high1 byte1 && between c.low2 c.high2 byte2)
    (Slot.At ((byte1 - c.low1) * (c.high2 - c.low2 + 1) + (byte2 - c.low2)))
    Slot.Nothing

-- the entry of a code: "any code above 65,535 [has] no glyph"
unfoldable pub slot_of : EncodingData → ℕ → Slot
slot_of c code =
    cond (ltb 65535 code) Slot.Nothing
    (cond (one_byte c) (slot_whole c code) (slot_bytes c (code / 256) (code % 256)))

abbrev pub no_glyph : Found
no_glyph = Found.Refused (refusal 9 0)

-- "Entry 65,535 [has] no glyph"
abbrev pub entry_glyph : ℕ → Found
entry_glyph g = cond (eqb g 65535) no_glyph (Found.Glyph (record { 0 = g }))

-- "from 14 a u16 for each"
abbrev pub glyph_at : List ℕ → EncodingData → Slot → Found
glyph_at s c (Slot.At i) = entry_glyph (u16_at c.big s (c.entries + 2 * i))
glyph_at s c Slot.Nothing = no_glyph

-- a code's own glyph, or 9
unfoldable pub glyph_of : List ℕ → EncodingData → ℕ → Found
glyph_of s c code = glyph_at s c (slot_of c code)

abbrev pub said_found : Found → Said
said_found (Found.Glyph g) = says (pos g.0 ∷ [])
said_found (Found.Refused r) = refuses r

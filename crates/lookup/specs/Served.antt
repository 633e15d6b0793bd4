-- The glyph that shows a character, in the caller's mode. From document 02: "Lookup shall answer the glyph, the code that supplied it and
-- whether it is the default, in the caller's mode: plain stays as it is; in default mode a code without a glyph takes the default code's
-- glyph if that has one. [...] 9 in default mode only when the default code has no glyph either."
use Rattle.std.specs.Prelude.{ℕ, true, false, cond, List, [], ◌∷◌, ℤ, pos}
use Rattle.reads.specs.Said.{Said, refusal, says, refuses, bit}
use Rattle.tables.specs.Fits.{tested}
use Rattle.tables.specs.declared.EncodingData.{EncodingData}
use Rattle.tables.specs.declared.Record.{Record}
use Rattle.modes.specs.declared.Mode.{Mode}
use Rattle.lookup.specs.Lookup.{glyph_of}
use Rattle.lookup.specs.declared.Found.{Found}
use Rattle.lookup.specs.declared.Served.{Served}
use Rattle.lookup.specs.declared.Supplier.{Supplier}

-- the code itself; "a code with its own glyph" is not the default, "even if it is the default code"
abbrev pub itself : ℕ → Supplier
itself code = record { code = record { 0 = code }; is_default = false }

-- the default code, for a code without a glyph
abbrev pub the_default : EncodingData → Supplier
the_default c = record { code = record { 0 = c.default }; is_default = true }

-- what a code's own entry has, with the code that supplied it
abbrev pub supplied_by : Supplier → Found → Served
supplied_by by (Found.Glyph g) = Served.Glyph g by
supplied_by by (Found.Refused r) = Served.Refused r

-- what shows a code without a glyph: "in default mode [...] the default code's glyph if that has one", which is looked up plainly
unfoldable pub stand_in : List ℕ → EncodingData → Mode → Served
stand_in s c mode = cond mode.default (supplied_by (the_default c) (glyph_of s c c.default)) (Served.Refused (refusal 9 0))

-- "a code without a glyph takes" the other
abbrev pub or_else : ℕ → Found → Served → Served
or_else code (Found.Glyph g) other = Served.Glyph g (itself code)
or_else code (Found.Refused r) other = other

-- the glyph that shows a code in this mode, or 9
unfoldable pub served : List ℕ → EncodingData → Mode → ℕ → Served
served s c mode code = or_else code (glyph_of s c code) (stand_in s c mode)

-- `get_glyph`: 6, 9
unfoldable pub get_glyph : List ℕ → Record → Mode → ℕ → Served
get_glyph s rec mode code = tested Served.Refused s rec (served s rec.codes mode code)

abbrev pub supplier_values : Supplier → List ℤ
supplier_values by = pos by.code.0 ∷ bit by.is_default ∷ []

abbrev pub said_served : Served → Said
said_served (Served.Glyph g by) = says (pos g.0 ∷ supplier_values by)
said_served (Served.Refused r) = refuses r

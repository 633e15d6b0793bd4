-- Drawing with a font's bytes alone. From document 01: "A passed font is such bytes with the record that loading gave for them", and of a
-- refusal "its number, a place and no other value; lent buffers keep their contents". From document 02: "Strict loading [...] The tolerant
-- load remains beside the Rust; vetting uses the strict one".
use Rattle.std.specs.Prelude.{ℕ, List}
use Rattle.tables.specs.declared.Record.{Record}
use Rattle.modes.specs.declared.Mode.{Mode}
use Rattle.load.specs.Load.{loaded, loaded_strictly}
use Rattle.load.specs.declared.Loaded.{Loaded}
use Rattle.vet.specs.Vet.{vetted}
use Rattle.vet.specs.declared.Vetted.{Vetted}
use Rattle.bitmaps.specs.Place.{Place}
use Rattle.glyphs.specs.Char.{draw_char, char_leaves}
use Rattle.glyphs.specs.declared.CharDrawn.{CharDrawn}
use Rattle.text.specs.Text.{draw_string, string_leaves}
use Rattle.text.specs.declared.Layout.{Layout}
use Rattle.text.specs.declared.TextDrawn.{TextDrawn}
use Rattle.font.specs.declared.Reading.{Reading}

-- a passed font as loading answers it
abbrev pub as_loaded : Vetted → Loaded
as_loaded (Vetted.Passed rec) = Loaded.Font rec
as_loaded (Vetted.Refused r) = Loaded.Refused r

-- the record of these bytes, read in one of the three ways
unfoldable pub record_of : List ℕ → Reading → Loaded
record_of s Reading.Tolerant = loaded s
record_of s Reading.Strict = loaded_strictly s
record_of s Reading.Vetted = as_loaded (vetted s)

-- a character with what loading gave: drawn, or the refusal passed on
abbrev pub char_with : Loaded → (Record → CharDrawn) → CharDrawn
char_with (Loaded.Font rec) draw = draw rec
char_with (Loaded.Refused r) draw = CharDrawn.Refused r

abbrev pub string_with : Loaded → (Record → TextDrawn) → TextDrawn
string_with (Loaded.Font rec) draw = draw rec
string_with (Loaded.Refused r) draw = TextDrawn.Refused r

-- what is left in the buffer with what loading gave
abbrev pub left_with : Loaded → (Record → List ℕ) → List ℕ → List ℕ
left_with (Loaded.Font rec) leaves old = leaves rec
left_with (Loaded.Refused r) leaves old = old

unfoldable pub show_char : List ℕ → Reading → Mode → ℕ → ℕ → Place → CharDrawn
show_char s reading mode code len at = char_with (record_of s reading) (λ rec. draw_char s rec mode code len at)

unfoldable pub show_char_leaves : List ℕ → Reading → Place → ℕ → CharDrawn → List ℕ → List ℕ
show_char_leaves s reading at colour r old = left_with (record_of s reading) (λ rec. char_leaves s rec at colour r old) old

unfoldable pub show_string : List ℕ → Reading → Mode → List ℕ → ℕ → Layout → TextDrawn
show_string s reading mode text len lay = string_with (record_of s reading) (λ rec. draw_string s rec mode text len lay)

unfoldable pub show_string_leaves : List ℕ → Reading → Mode → List ℕ → Layout → ℕ → TextDrawn → List ℕ → List ℕ
show_string_leaves s reading mode text lay colour r old =
    left_with (record_of s reading) (λ rec. string_leaves s rec mode text lay colour r old) old

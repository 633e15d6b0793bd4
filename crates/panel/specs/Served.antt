-- Which characters of a text are named as skipped, and how many the default code shows.
use Rattle.std.specs.Prelude.{ℕ, ◌+◌, ◌≡◌, Bool, false, cond, not, ◌&&◌, List, [], ◌∷◌, eqb}
use Rattle.tables.specs.declared.EncodingData.{EncodingData}
use Rattle.modes.specs.declared.Mode.{Mode}
use Rattle.lookup.specs.Served.{served}
use Rattle.lookup.specs.declared.Served.{Served}
use Rattle.utf8.specs.Decode.{Char, decoded, chars}

-- all but newline and carriage return, 10 and 13, which are not looked up
abbrev pub wants_glyph : ℕ → Bool
wants_glyph code = not (eqb code 10) && not (eqb code 13)

-- "a code without glyph is skipped"
abbrev pub lacked : ℕ → Served → Bool
lacked code (Served.Glyph g by) = false
lacked code (Served.Refused r) = wants_glyph code

-- "whether it is the default"
abbrev pub by_default : ℕ → Served → Bool
by_default code (Served.Glyph g by) = by.is_default && wants_glyph code
by_default code (Served.Refused r) = false

-- how many of these characters the default code shows
unfoldable pub default_count : List ℕ → EncodingData → Mode → List Char → ℕ
default_count s c mode [] = 0
default_count s c mode (x ∷ xs) = cond (by_default x.code (served s c mode x.code)) 1 0 + default_count s c mode xs

-- n of a text's characters, if it is UTF-8
abbrev pub CountsDefaults : List ℕ → EncodingData → Mode → List ℕ → ℕ → Type 0
CountsDefaults s c mode text n = (cs : List Char) → decoded text ≡ chars cs → n ≡ default_count s c mode cs

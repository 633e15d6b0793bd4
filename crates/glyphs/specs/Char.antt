-- Drawing a character: placed, then drawn. From document 01, the order "6, 15, [...] then per character 9, 10, 11, 12, 13, 14, 16". From
-- document 02: "Placing, characters, texts and R-1 pass the longer answer on".
use Rattle.std.specs.Prelude.{ℕ, List, ◌++◌}
use Rattle.reads.specs.Said.{Said, says, refuses}
use Rattle.tables.specs.Fits.{guarded}
use Rattle.tables.specs.declared.Record.{Record}
use Rattle.modes.specs.declared.Mode.{Mode}
use Rattle.lookup.specs.Served.{supplier_values}
use Rattle.lookup.specs.declared.Supplier.{Supplier}
use Rattle.bitmaps.specs.Paint.{painted}
use Rattle.bitmaps.specs.Place.{Place}
use Rattle.bitmaps.specs.Limits.{ok_place}
use Rattle.bitmaps.specs.Draw.{rows_values}
use Rattle.bitmaps.specs.declared.Drawn.{Drawn}
use Rattle.place.specs.Info.{info_values, prepared_in}
use Rattle.glyphs.specs.Glyph.{glyph_drawn, in_info}
use Rattle.place.specs.declared.GlyphInfo.{GlyphInfo}
use Rattle.place.specs.declared.CharPrepared.{CharPrepared}
use Rattle.glyphs.specs.declared.CharDrawn.{CharDrawn}

abbrev pub with_info : CharPrepared → (GlyphInfo → Supplier → CharDrawn) → CharDrawn
with_info (CharPrepared.Info i by) rest = rest i by
with_info (CharPrepared.Refused r) rest = CharDrawn.Refused r

-- the answer of a glyph that was placed and supplied so
abbrev pub char_of : GlyphInfo → Supplier → Drawn → CharDrawn
char_of i by (Drawn.Rows r) = CharDrawn.Glyph i r by
char_of i by (Drawn.Refused r) = CharDrawn.Refused r

-- a character placed, with the tests before: 6, 15, 9, 10, 11
unfoldable pub char_ready : List ℕ → Record → Mode → ℕ → Place → CharPrepared
char_ready s rec mode code at = guarded CharPrepared.Refused s rec (ok_place at) (prepared_in s rec mode code)

-- `draw_char`: 6, 15, 9, 10, 11, then 13, 14, 16
unfoldable pub draw_char : List ℕ → Record → Mode → ℕ → ℕ → Place → CharDrawn
draw_char s rec mode code len at = with_info (char_ready s rec mode code at) (λ i by. char_of i by (glyph_drawn s rec.bitmaps i len at))

-- what `draw_char` leaves in the buffer
abbrev pub char_leaves : List ℕ → Record → Place → ℕ → CharDrawn → List ℕ → List ℕ
char_leaves s rec at colour (CharDrawn.Glyph i r by) old = painted (in_info s rec.bitmaps i at r.drawn) colour old
char_leaves s rec at colour (CharDrawn.Refused r) old = old

abbrev pub said_char : CharDrawn → Said
said_char (CharDrawn.Glyph i r by) = says (info_values i ++ rows_values r ++ supplier_values by)
said_char (CharDrawn.Refused r) = refuses r

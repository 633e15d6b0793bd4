-- Which code has a frame: one with a glyph of which nothing is missing. From document 01: "per character 9, 10, 11, 12, 13, 14 [...]; names
-- and properties: 6, 17, 18". In a font that passed vetting only 9 is left: "one frame a line for each code with a glyph".
use Rattle.std.specs.Prelude.{ℕ, cond, List}
use Rattle.reads.specs.Said.{refusal}
use Rattle.tables.specs.declared.Record.{Record}
use Rattle.lookup.specs.Lookup.{glyph_of}
use Rattle.lookup.specs.declared.Found.{Found}
use Rattle.names.specs.Names.{name_of}
use Rattle.names.specs.declared.Named.{Named}
use Rattle.bitmaps.specs.Picture.{no_bitmap, unreadable, rows_short}
use Rattle.place.specs.Info.{info_in}
use Rattle.place.specs.declared.GlyphInfo.{GlyphInfo}
use Rattle.place.specs.declared.Prepared.{Prepared}

-- 17, 18
abbrev pub when_named : Named → Prepared → Prepared
when_named (Named.Name p) rest = rest
when_named (Named.Refused r) rest = Prepared.Refused r

-- of a placed glyph: 12, 13, 14 over all rows, 17, 18
unfoldable pub whole_box : List ℕ → Record → GlyphInfo → Prepared
whole_box s rec i =
    cond (no_bitmap rec.bitmaps i.glyph.0) (Prepared.Refused (refusal 12 0))
    (cond (unreadable rec.bitmaps) (Prepared.Refused (refusal 13 0))
    (cond (rows_short s rec.bitmaps i.glyph.0 i.width i.height) (Prepared.Refused (refusal 14 0))
    (when_named (name_of s rec.names i.glyph.0) (Prepared.Info i))))

abbrev pub when_placed : List ℕ → Record → Prepared → Prepared
when_placed s rec (Prepared.Info i) = whole_box s rec i
when_placed s rec (Prepared.Refused r) = Prepared.Refused r

-- of a code's own glyph, "the dump stay[s] plain": 9, 10, 11, then those
abbrev pub when_found : List ℕ → Record → Found → Prepared
when_found s rec (Found.Glyph g) = when_placed s rec (info_in s rec g)
when_found s rec (Found.Refused r) = Prepared.Refused r

unfoldable pub whole_glyph : List ℕ → Record → ℕ → Prepared
whole_glyph s rec code = when_found s rec (glyph_of s rec.codes code)

-- Vetting. From document 01: "Passes when loading does and, in this order: no 13; the bounds hold (11); every property's strings end
-- (18); then for each code 0 to 65,535 that has a glyph: 10, 11, 12, 14 over all rows, 17, 18 don't occur. Otherwise the first failure
-- and its place": "in vetting, for a property the property's number, for a code the code". From document 02: "vetting uses the strict" load.
use Rattle.std.specs.Prelude.{ℕ, cond, List, [], ◌∷◌, ◌++◌}
use Rattle.reads.specs.Said.{Said, refusal, says, refuses}
use Rattle.tables.specs.Values.{record_values}
use Rattle.tables.specs.declared.Record.{Record}
use Rattle.load.specs.Load.{loaded_strictly, of_strict_loading}
use Rattle.load.specs.declared.Loaded.{Loaded}
use Rattle.lookup.specs.Lookup.{glyph_of}
use Rattle.lookup.specs.declared.Found.{Found}
use Rattle.names.specs.Names.{name_of}
use Rattle.names.specs.declared.Named.{Named}
use Rattle.props.specs.Props.{prop_of}
use Rattle.props.specs.declared.PropFound.{PropFound}
use Rattle.bitmaps.specs.Picture.{no_bitmap, unreadable, rows_short}
use Rattle.place.specs.Bounds.{bounds_hold, bounds_of}
use Rattle.place.specs.Info.{info_in}
use Rattle.place.specs.declared.GlyphInfo.{GlyphInfo}
use Rattle.place.specs.declared.Prepared.{Prepared}
use Rattle.vet.specs.First.{first_fault}
use Rattle.vet.specs.declared.First.{First}
use Rattle.vet.specs.declared.Vetted.{Vetted}

-- "every property's strings end (18)"
abbrev pub found_prop : PropFound → ℕ
found_prop (PropFound.Property p) = 0
found_prop (PropFound.Refused r) = r.number

unfoldable pub prop_fault : List ℕ → Record → ℕ → ℕ
prop_fault s rec i = found_prop (prop_of s rec.props i)

-- 17, 18
abbrev pub name_fault : Named → ℕ
name_fault (Named.Name p) = 0
name_fault (Named.Refused r) = r.number

-- of a placed glyph: 12, "14 over all rows", 17, 18
unfoldable pub box_fault : List ℕ → Record → GlyphInfo → ℕ
box_fault s rec i =
    cond (no_bitmap rec.bitmaps i.glyph.0) 12
    (cond (rows_short s rec.bitmaps i.glyph.0 i.width i.height) 14
    (name_fault (name_of s rec.names i.glyph.0)))

-- of a glyph: 10, 11, then those
abbrev pub glyph_fault : List ℕ → Record → Prepared → ℕ
glyph_fault s rec (Prepared.Info i) = box_fault s rec i
glyph_fault s rec (Prepared.Refused r) = r.number

-- only codes that have a glyph are tested
abbrev pub found_fault : List ℕ → Record → Found → ℕ
found_fault s rec (Found.Glyph g) = glyph_fault s rec (info_in s rec g)
found_fault s rec (Found.Refused r) = 0

unfoldable pub code_fault : List ℕ → Record → ℕ → ℕ
code_fault s rec code = found_fault s rec (glyph_of s rec.codes code)

abbrev pub after_first : First → Vetted → Vetted
after_first First.Clear rest = rest
after_first (First.At n k) rest = Vetted.Refused (refusal n k)

-- the conditions on a record, in order, with those on n codes from `code` on
abbrev pub vet_codes : List ℕ → Record → ℕ → ℕ → Vetted
vet_codes s rec n code =
    cond (unreadable rec.bitmaps) (Vetted.Refused (refusal 13 0))
    (cond (bounds_hold (bounds_of rec))
    (after_first (first_fault (prop_fault s rec) rec.props.count 0)
    (after_first (first_fault (code_fault s rec) n code)
    (Vetted.Passed rec)))
    (Vetted.Refused (refusal 11 0)))

-- the conditions on a record that loading gave: "for each code 0 to 65,535"
unfoldable pub vet_record : List ℕ → Record → Vetted
vet_record s rec = vet_codes s rec 65536 0

abbrev pub vet_loaded : List ℕ → Loaded → Vetted
vet_loaded s (Loaded.Font rec) = vet_record s rec
vet_loaded s (Loaded.Refused r) = Vetted.Refused r

-- `vet`: "A passed font is such bytes with the record that loading gave for them"
unfoldable pub vetted : List ℕ → Vetted
vetted s = vet_loaded s (loaded_strictly s)

-- the numbers of a code's glyph: "10, 11, 12, 14 over all rows, 17, 18"
abbrev pub of_glyphs : List ℕ
of_glyphs = 10 ∷ 11 ∷ 12 ∷ 14 ∷ 17 ∷ 18 ∷ []

-- the numbers of a refusal: those of strict loading, "13; the bounds hold (11); every property's strings end (18)", and those
abbrev pub of_vetting : List ℕ
of_vetting = of_strict_loading ++ (13 ∷ 11 ∷ 18 ∷ of_glyphs)

abbrev pub said_vetted : Vetted → Said
said_vetted (Vetted.Passed r) = says (record_values r)
said_vetted (Vetted.Refused r) = refuses r

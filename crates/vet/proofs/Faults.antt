-- What each part of vetting answers, by the calls that the code made before it: each test that the code makes is the definition's next one.
use Prim.Native.Nat.{ℕ}
use mathlib.Core.Path.{◌≡◌}
use mathlib.Core.Bool.{Bool, true, false}
use mathlib.Core.List.{List}
use Rattle.reads.specs.Said.{refusal}
use Rattle.reads.specs.declared.GlyphIndex.{GlyphIndex}
use Rattle.reads.specs.declared.Refusal.{Refusal}
use Rattle.tables.specs.declared.Record.{Record}
use Rattle.load.specs.Load.{loaded_strictly}
use Rattle.load.specs.declared.Loaded.{Loaded}
use Rattle.lookup.specs.Lookup.{glyph_of}
use Rattle.lookup.specs.declared.Found.{Found}
use Rattle.names.specs.Names.{name_of}
use Rattle.names.specs.declared.Named.{Named}
use Rattle.names.specs.declared.Span.{Span}
use Rattle.props.specs.Props.{prop_of}
use Rattle.props.specs.declared.PropFound.{PropFound}
use Rattle.props.specs.declared.Property.{Property}
use Rattle.bitmaps.specs.Picture.{no_bitmap, unreadable, rows_short}
use Rattle.place.specs.Bounds.{bounds_hold, bounds_of}
use Rattle.place.specs.Info.{info_in}
use Rattle.place.specs.declared.GlyphInfo.{GlyphInfo}
use Rattle.place.specs.declared.Prepared.{Prepared}
use Rattle.vet.specs.First.{first_fault}
use Rattle.vet.specs.Vet.{prop_fault, box_fault, glyph_fault, code_fault, vet_record, vetted}
use Rattle.vet.specs.declared.First.{First}
use Rattle.vet.specs.declared.Vetted.{Vetted}

-- ---- a property

module _ (s : List ℕ) (rec : Record) (i : ℕ) (found : PropFound) (found-is : found ≡ prop_of s rec.props i) where
  pub prop_found : (p : Property) → found ≡ PropFound.Property p → 0 ≡ prop_fault s rec i
  unfolding prop_fault
  prop_found p e = rw (← found-is, e)

  pub prop_refused : (r : Refusal) → found ≡ PropFound.Refused r → r.number ≡ prop_fault s rec i
  unfolding prop_fault
  prop_refused r e = rw (← found-is, e)

-- ---- a glyph and a code

module _ (s : List ℕ) (rec : Record) (i : GlyphInfo) (none : Bool) (none_is : none ≡ no_bitmap rec.bitmaps i.glyph.0) where
  pub no_bitmap_lem : none ≡ true → 12 ≡ box_fault s rec i
  unfolding box_fault
  no_bitmap_lem e = rw (← none_is, e)

  module _ (short : Bool) (there : none ≡ false) (short-is : short ≡ rows_short s rec.bitmaps i.glyph.0 i.width i.height) where
    pub rows_short_lem : short ≡ true → 14 ≡ box_fault s rec i
    unfolding box_fault
    rows_short_lem e = rw (← none_is, there, ← short-is, e)

    module _ (name : Named) (whole : short ≡ false) (name-is : name ≡ name_of s rec.names i.glyph.0) where
      pub named : (p : Span) → name ≡ Named.Name p → 0 ≡ box_fault s rec i
      unfolding box_fault
      named p e = rw (← none_is, there, ← short-is, whole, ← name-is, e)

      pub nameless : (r : Refusal) → name ≡ Named.Refused r → r.number ≡ box_fault s rec i
      unfolding box_fault
      nameless r e = rw (← none_is, there, ← short-is, whole, ← name-is, e)

module _ (s : List ℕ) (rec : Record) (g : GlyphIndex) (info : Prepared) (info-is : info ≡ info_in s rec g) where
  pub glyph_placed : (i : GlyphInfo) (n : ℕ) → info ≡ Prepared.Info i → n ≡ box_fault s rec i → n ≡ glyph_fault s rec (info_in s rec g)
  glyph_placed i n e is = rw (← info-is, e) is

  pub glyph_refused : (r : Refusal) → info ≡ Prepared.Refused r → r.number ≡ glyph_fault s rec (info_in s rec g)
  glyph_refused r e = rw (← info-is, e)

module _ (s : List ℕ) (rec : Record) (code : ℕ) (found : Found) (found-is : found ≡ glyph_of s rec.codes code) where
  pub code_found : (g : GlyphIndex) (n : ℕ) → found ≡ Found.Glyph g → n ≡ glyph_fault s rec (info_in s rec g) → n ≡ code_fault s rec code
  unfolding code_fault
  code_found g n e is = rw (← found-is, e) is

  pub code_empty : (r : Refusal) → found ≡ Found.Refused r → 0 ≡ code_fault s rec code
  unfolding code_fault
  code_empty r e = rw (← found-is, e)

-- ---- a record and a font

module _ (s : List ℕ) (rec : Record) (odd : Bool) (odd_is : odd ≡ unreadable rec.bitmaps) where
  pub record_13 : odd ≡ true → Vetted.Refused (refusal 13 0) ≡ vet_record s rec
  unfolding vet_record
  record_13 e = rw (← odd_is, e)

  module _ (hold : Bool) (even : odd ≡ false) (hold-is : hold ≡ bounds_hold (bounds_of rec)) where
    pub record_11 : hold ≡ false → Vetted.Refused (refusal 11 0) ≡ vet_record s rec
    unfolding vet_record
    record_11 e = rw (← odd_is, even, ← hold-is, e)

    module _ (props : First) (held : hold ≡ true) (props-are : props ≡ first_fault (prop_fault s rec) rec.props.count 0) where
      pub record_prop : (n place : ℕ) → props ≡ First.At n place → Vetted.Refused (refusal n place) ≡ vet_record s rec
      unfolding vet_record
      record_prop n place e = rw (← odd_is, even, ← hold-is, held, ← props-are, e)

      module _ (codes : First) (clear : props ≡ First.Clear) (codes_are : codes ≡ first_fault (code_fault s rec) 65536 0) where
        pub record_code : (n place : ℕ) → codes ≡ First.At n place → Vetted.Refused (refusal n place) ≡ vet_record s rec
        unfolding vet_record
        record_code n place e = rw (← odd_is, even, ← hold-is, held, ← props-are, clear, ← codes_are, e)

        pub record_passes : codes ≡ First.Clear → Vetted.Passed rec ≡ vet_record s rec
        unfolding vet_record
        record_passes e = rw (← odd_is, even, ← hold-is, held, ← props-are, clear, ← codes_are, e)

module _ (s : List ℕ) (font : Loaded) (font-is : font ≡ loaded_strictly s) where
  pub font_vetted : (rec : Record) (r : Vetted) → font ≡ Loaded.Font rec → r ≡ vet_record s rec → r ≡ vetted s
  unfolding vetted
  font_vetted rec r e is = rw (← font-is, e) is

  pub font_refused : (r : Refusal) → font ≡ Loaded.Refused r → Vetted.Refused r ≡ vetted s
  unfolding vetted
  font_refused r e = rw (← font-is, e)

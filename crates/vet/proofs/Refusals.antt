-- The numbers that vetting refuses with: those of strict loading, 13, 11, 18 of a property, and those of a code's glyph.
use Prim.Native.Nat.{ℕ}
use mathlib.Core.Path.{◌≡◌, refl, ap}
use mathlib.Core.Bool.{true}
use mathlib.Core.List.{List, [], ◌∷◌}
use mathlib.Core.Logic.{⊎_elim}
use lib.ListN.{length}
use lib.Dec.{eqb}
use borrow.Author.Tests.{eqb-true}
use Rattle.reads.specs.Said.{elem, NumberedBy}
use Rattle.reads.proofs.Numbers.{has_values, has_number, elem_more, wider}
use Rattle.reads.proofs.Tests.{split, either}
use Rattle.tables.specs.Fits.{record_fits}
use Rattle.tables.specs.declared.Record.{Record}
use Rattle.tables.proofs.RecordParts.{prop_strings, name_strings}
use Rattle.load.specs.Load.{loaded_strictly, of_strict_loading, said_loaded}
use Rattle.load.specs.declared.Loaded.{Loaded}
use Rattle.load.proofs.Refusals.{load_strict_refusals}
use Rattle.load.proofs.Serves.{loaded_serves}
use Rattle.lookup.specs.Lookup.{glyph_of}
use Rattle.lookup.specs.declared.Found.{Found}
use Rattle.names.specs.Names.{name_of, said_named}
use Rattle.names.specs.declared.Named.{Named}
use Rattle.names.proofs.Refusals.{name_in_data}
use Rattle.props.specs.Props.{prop_of, said_prop}
use Rattle.props.specs.declared.PropFound.{PropFound}
use Rattle.props.proofs.Refusals.{prop_in_data}
use Rattle.bitmaps.specs.Picture.{no_bitmap, rows_short}
use Rattle.place.specs.Bounds.{bounds_of}
use Rattle.place.specs.Info.{info_in, of_placing, said_prepared}
use Rattle.place.specs.declared.GlyphInfo.{GlyphInfo}
use Rattle.place.specs.declared.Prepared.{Prepared}
use Rattle.place.proofs.Refusals.{info_of_refusals}
use Rattle.vet.specs.Vet.{found_prop, prop_fault, name_fault, box_fault, glyph_fault, found_fault, code_fault, vet_record, vet_loaded, vetted, of_glyphs, of_vetting, said_vetted}
use Rattle.vet.specs.declared.Vetted.{Vetted}
use Rattle.vet.proofs.FirstFault.{IsFirst}
use Rattle.vet.proofs.Verdict.{Fails, refused_when}

-- a fault is 0 or one of these
abbrev FaultOf : List ℕ → ℕ → Type 0
FaultOf ns n = elem n (0 ∷ ns) ≡ true

prop_fault_lem : (p : PropFound) → NumberedBy (17 ∷ 18 ∷ []) (said_prop p) → FaultOf (17 ∷ 18 ∷ []) (found_prop p)
prop_fault_lem (PropFound.Property p) h = refl
prop_fault_lem (PropFound.Refused r) h = elem_more r.number (17 ∷ 18 ∷ []) (0 ∷ 17 ∷ 18 ∷ []) refl h.is

name_fault_lem : (n : Named) → NumberedBy (17 ∷ 18 ∷ []) (said_named n) → FaultOf of_glyphs (name_fault n)
name_fault_lem (Named.Name p) h = refl
name_fault_lem (Named.Refused r) h = elem_more r.number (17 ∷ 18 ∷ []) (0 ∷ of_glyphs) refl h.is

module _ (s : List ℕ) (rec : Record) (fits : record_fits (length s) rec ≡ true) where
  property_numbered : (i : ℕ) → FaultOf of_vetting (prop_fault s rec i)
  unfolding prop_fault
  property_numbered i =
      let p = prop_of s rec.props i in
      elem_more (found_prop p) (0 ∷ 17 ∷ 18 ∷ []) (0 ∷ of_vetting) refl (prop_fault_lem p (prop_in_data s rec.props i (prop_strings (length s) rec fits)))

  box_numbered : (i : GlyphInfo) → FaultOf of_glyphs (box_fault s rec i)
  unfolding box_fault
  box_numbered i =
      either (FaultOf of_glyphs) (no_bitmap rec.bitmaps i.glyph.0) refl
      (either (FaultOf of_glyphs) (rows_short s rec.bitmaps i.glyph.0 i.width i.height) refl
      (name_fault_lem (name_of s rec.names i.glyph.0) (name_in_data s rec.names i.glyph.0 (name_strings (length s) rec fits))))

  glyph_numbered : (p : Prepared) → NumberedBy of_placing (said_prepared p) → FaultOf of_glyphs (glyph_fault s rec p)
  glyph_numbered (Prepared.Info i) h = box_numbered i
  glyph_numbered (Prepared.Refused r) h = elem_more r.number of_placing (0 ∷ of_glyphs) refl h.is

  found_numbered : (f : Found) → FaultOf of_glyphs (found_fault s rec f)
  found_numbered (Found.Glyph g) = glyph_numbered (info_in s rec g) (info_of_refusals s rec.metrics (bounds_of rec) g)
  found_numbered (Found.Refused r) = refl

  code_numbered : (code : ℕ) → FaultOf of_vetting (code_fault s rec code)
  unfolding code_fault
  code_numbered code =
      let f = glyph_of s rec.codes code in
      elem_more (found_fault s rec f) (0 ∷ of_glyphs) (0 ∷ of_vetting) refl (found_numbered f)

-- a fault that is one stands in the list
first_numbered : {f : ℕ → ℕ} {k end : ℕ} (n place : ℕ) → ((i : ℕ) → FaultOf of_vetting (f i)) → IsFirst f k end n place → elem n of_vetting ≡ true
first_numbered n place by first =
    let listed : FaultOf of_vetting n = rw first.fault at (by place) in
    split (eqb n 0) (λ t. absurd (first.is_one (eqb-true n 0 t))) (λ t. rw t at listed)

fails_numbered : (s : List ℕ) (rec : Record) → record_fits (length s) rec ≡ true → (n place : ℕ) → Fails s rec n place → elem n of_vetting ≡ true
fails_numbered s rec fits n place =
    ⊎_elim (λ (order, e, z). rw e refl)
    (⊎_elim (λ (order, bounds, e, z). rw e refl)
    (⊎_elim (λ (order, bounds, first). first_numbered n place (property_numbered s rec fits) first)
    (λ (order, bounds, props, first). first_numbered n place (code_numbered s rec fits) first)))

pub vet_refusals : (s : List ℕ) → NumberedBy of_vetting (said_vetted (vetted s))
unfolding vetted
vet_refusals s = by (loaded_strictly s) refl (load_strict_refusals s) where
  by_record : (rec : Record) → loaded_strictly s ≡ Loaded.Font rec → (x : Vetted) → vetted s ≡ x → NumberedBy of_vetting (said_vetted x)
  by_record rec l (Vetted.Passed p) e = has_values
  by_record rec l (Vetted.Refused r) e =
      has_number (fails_numbered s rec (loaded_serves true s rec l) r.number r.place ((refused_when s rec l r.number r.place).0 e))

  by : (x : Loaded) → loaded_strictly s ≡ x → NumberedBy of_strict_loading (said_loaded x) → NumberedBy of_vetting (said_vetted (vet_loaded s x))
  by (Loaded.Font rec) l h = by_record rec l (vet_record s rec) (ap (vet_loaded s) l)
  by (Loaded.Refused r) l h = wider refl h

-- A font that loads is refused in vetting exactly where a condition of documents 01 and 02 fails, with the number of the first that does
-- and its place.
use mathlib.Core.Path.{◌≡◌, refl, sym, ap, subst, ◌∙◌}
use mathlib.Core.Bool.{true, false}
use mathlib.Core.List.{List, [], ◌∷◌}
use mathlib.Core.Logic.{◌⊎◌, ◌↔◌, inl, inr, ⊎_elim}
use Prim.Native.Nat.{ℕ, ◌+◌, ◌*◌, ◌<◌}
use native.Mathlib.Omega.{arith}
use lib.ListN.{length}
use lib.Dec.{leb, eqb}
use lib.IntN.{ℤ, nat_abs}
use borrow.Author.Tests.{lt-leb, leb-false, eqb-true, eqb-false}
use Rattle.reads.specs.Num.{byte_at, u32_at}
use Rattle.reads.specs.Said.{refusal}
use Rattle.reads.specs.declared.Refusal.{Refusal}
use Rattle.reads.proofs.Tests.{never, split}
use Rattle.tables.specs.Fits.{inside, record_fits}
use Rattle.tables.specs.declared.BitmapData.{BitmapData}
use Rattle.tables.specs.declared.MetricsUnpacked.{MetricsUnpacked}
use Rattle.tables.specs.declared.PropertiesData.{PropertiesData}
use Rattle.tables.specs.declared.Record.{Record}
use Rattle.tables.proofs.RecordParts.{prop_strings, name_strings}
use Rattle.load.specs.Load.{loaded}
use Rattle.load.specs.declared.Loaded.{Loaded}
use Rattle.load.specs.Formats.{FormatsAgree, FirstDiffers}
use Rattle.load.proofs.Serves.{loaded_serves}
use Rattle.load.proofs.StrictLoading.{strict_compared, strict_27, strict_agrees, strict_passes}
use Rattle.lookup.specs.Lookup.{glyph_of}
use Rattle.lookup.specs.declared.Found.{Found}
use Rattle.names.specs.Names.{name_of}
use Rattle.names.specs.Strings.{string_at, EndsIn}
use Rattle.names.specs.declared.Named.{Named}
use Rattle.names.specs.declared.Span.{Span}
use Rattle.names.proofs.EndsAtZero.{ends_found}
use Rattle.names.proofs.Refusals.{string_eighteen}
use Rattle.props.specs.Props.{prop_of}
use Rattle.metrics.specs.Measure.{glyph_metrics, metrics_of}
use Rattle.bitmaps.specs.Picture.{no_bitmap, unreadable, rows_short}
use Rattle.place.specs.Bounds.{height_of, bounds_hold, bounds_of}
use Rattle.place.specs.Info.{placeable, info_of}
use Rattle.vet.specs.Vet.{name_fault, box_fault, prop_fault, code_fault, vetted, said_vetted}
use Rattle.vet.specs.declared.Vetted.{Vetted}
use Rattle.vet.proofs.CodesInRange.{no_glyph_no_fault}
use Rattle.vet.proofs.FirstFault.{Faultless, IsFirst}
use Rattle.vet.proofs.PassedCodes.{code_usable}
use Rattle.vet.proofs.PassedProps.{prop_readable, readable_prop}
use Rattle.vet.proofs.Verdict.{Fails, refused_when, refused_load}
use Rattle.promises.specs.Passing.{HasGlyph, PropertyGood, PropertiesGood, NameEnds, GlyphGood}
use Rattle.promises.specs.Refusing.{Condition, FirstOf, glyph_conditions, PropertyFails, CodeFails, RecordRefuses, Refuses}
use Rattle.promises.proofs.Vetting.{
  order_good,
  good_order,
  bounds_good,
  good_bounds,
  metrics_good,
  good_metrics,
  rows_good,
  good_rows,
  property_good,
  good_property,
  glyph_good,
  good_code,
}

-- the first condition fails, or it holds and a later one fails
stop : {A B C : Type 0} → A → B → (A × B) ⊎ C
stop a b = inl (a, b)

pass : {A B C : Type 0} → B → C → A ⊎ (B × C)
pass b c = inr (b, c)

-- only one number is that of the first condition that fails
first_one : (cs : List Condition) (m n : ℕ) → FirstOf cs m → FirstOf cs n → m ≡ n
first_one [] m n f g = absurd f
first_one (c ∷ cs) m n f g =
    ⊎_elim
    (λ (bad, e). ⊎_elim (λ (bad2, d). e ∙ sym d) (λ (holds, rest). absurd (bad holds)) g)
    (λ (holds, rest). ⊎_elim (λ (bad, d). absurd (bad holds)) (λ (holds2, rest2). first_one cs m n rest rest2) g)
    f

-- a good glyph has no condition that fails
good_none : (s : List ℕ) (rec : Record) (g n : ℕ) → GlyphGood s rec g → FirstOf (glyph_conditions s rec g) n → ⊥
good_none s rec g n w =
    ⊎_elim (λ (fails, e). fails w.measured)
    (λ (y, f). ⊎_elim (λ (fails, e). fails w.metrics)
    (λ (y, f). ⊎_elim (λ (fails, e). fails w.pictured)
    (λ (y, f). ⊎_elim (λ (fails, e). fails w.rows)
    (λ (y, f). ⊎_elim (λ (fails, e). fails w.counted)
    (λ (y, f). ⊎_elim (λ (fails, e). fails w.ends) (λ (y, f). f) f) f) f) f) f)

module _ (s : List ℕ) (rec : Record) (fits : record_fits (length s) rec ≡ true) where
  abbrev b : BitmapData
  b = rec.bitmaps

  abbrev bounds : MetricsUnpacked
  bounds = bounds_of rec

  -- a string that is refused does not end
  unended : (strings size from : ℕ) → inside (length s) strings size ≡ true
      → (r : Refusal) → string_at s strings size from ≡ Named.Refused r → EndsIn s strings size from → ⊥
  unended strings size from room r d h =
      let (p, e) = ends_found s strings size from room h in
      let differ : Named.Name p ≡ Named.Refused r = sym e ∙ d in
      let z : ◌≡◌ {A = ℕ} 0 1 = cc in
      omega arith

  -- a code with this glyph: its fault is the number of the glyph's first condition that fails
  module _ (code g : ℕ) (found : HasGlyph s rec code g) where
    abbrev m : MetricsUnpacked
    m = glyph_metrics s rec.metrics g

    abbrev top : ℤ
    top = (bounds_of rec).ascent

    abbrev offset : ℕ
    offset = u32_at rec.names.big s (rec.names.offsets + 4 * g)

    abbrev name : Named
    name = string_at s rec.names.strings rec.names.size offset

    good_of : code_fault s rec code ≡ 0 → GlyphGood s rec g
    good_of e = glyph_good s rec fits (record { 0 = g }) (code_usable s rec code (record { 0 = g }) found e)

    above : (count : ℕ) → leb count g ≡ true → g < count → ⊥
    above count t h = never (sym (lt-leb count g h) ∙ t)

    code_fails : (n : ℕ) → code_fault s rec code ≡ n → (n ≡ 0 → ⊥) → FirstOf (glyph_conditions s rec g) n
    unfolding code_fault info_of metrics_of box_fault name_of
    code_fails n e z =
        split (leb rec.metrics.count g) (λ t. stop (above rec.metrics.count t) (sym (rw (found, t) at e)))
        (λ t. pass (leb-false rec.metrics.count g t) (split (placeable m top)
        (λ u. pass (metrics_good m top u) (split (no_bitmap rec.bitmaps g)
        (λ v. stop (above rec.bitmaps.count v) (sym (rw (found, t, u, v) at e)))
        (λ v. pass (leb-false rec.bitmaps.count g v) (split (rows_short s rec.bitmaps g (nat_abs m.width) (nat_abs (height_of m)))
        (λ w. stop (λ h. never (sym (good_rows s rec fits g h) ∙ w)) (sym (rw (found, t, u, v, w) at e)))
        (λ w. pass (rows_good s rec fits g w) (split (leb rec.names.count g)
        (λ x. stop (above rec.names.count x) (sym (rw (found, t, u, v, w, x) at e)))
        (λ x. pass (leb-false rec.names.count g x) (by name refl (rw (found, t, u, v, w, x) at e)))))))))
        (λ u. stop (λ h. never (sym u ∙ good_metrics m top h)) (sym (rw (found, t, u) at e))))) where
          by : (x : Named) → name ≡ x → name_fault name ≡ n → ((NameEnds s rec.names g → ⊥) × (n ≡ 18)) ⊎ (NameEnds s rec.names g × ⊥)
          by (Named.Name p) d f = absurd (z (sym (rw d at f)))
          by (Named.Refused r) d f =
              let number : r.number ≡ n = rw d at f in
              let room = name_strings (length s) rec fits in
              stop (unended rec.names.strings rec.names.size offset room r d)
              (sym number ∙ string_eighteen s rec.names.strings rec.names.size offset r d room)

    fails_code : (n : ℕ) → FirstOf (glyph_conditions s rec g) n → code_fault s rec code ≡ n
    fails_code n f =
        split (eqb (code_fault s rec code) 0)
        (λ t. absurd (good_none s rec g n (good_of (eqb-true (code_fault s rec code) 0 t)) f))
        (λ t. first_one (glyph_conditions s rec g) (code_fault s rec code) n (code_fails (code_fault s rec code) refl (eqb-false (code_fault s rec code) 0 t)) f)

    some_number : (n : ℕ) → FirstOf (glyph_conditions s rec g) n → n ≡ 0 → ⊥
    some_number n f z = good_none s rec g n (good_of (fails_code n f ∙ z)) f

  -- a property's fault is 18
  module _ (i : ℕ) where
    abbrev p : PropertiesData
    p = rec.props

    abbrev at : ℕ
    at = p.records + 9 * i

    abbrev flag : ℕ
    flag = byte_at s (at + 4)

    abbrev string : ℕ → Named
    string from = string_at s p.strings p.size from

    abbrev name_from : ℕ
    name_from = u32_at p.big s at

    abbrev value_from : ℕ
    value_from = u32_at p.big s (at + 5)

    property_eighteen : (n : ℕ) → i < p.count → prop_fault s rec i ≡ n → (n ≡ 0 → ⊥) → n ≡ 18
    unfolding prop_fault prop_of
    property_eighteen n h e z = by (string name_from) refl where
      told : (from : ℕ) (r : Refusal) → string from ≡ Named.Refused r → r.number ≡ n → n ≡ 18
      told from r d number = sym number ∙ string_eighteen s p.strings p.size from r d (prop_strings (length s) rec fits)

      after : (q : Span) → string name_from ≡ Named.Name q → eqb flag 0 ≡ false → (x : Named) → string value_from ≡ x → n ≡ 18
      after q d t (Named.Name v) f = absurd (z (sym (rw (lt-leb p.count i h, d, t, f) at e)))
      after q d t (Named.Refused r) f = told value_from r f (rw (lt-leb p.count i h, d, t, f) at e)

      by : (x : Named) → string name_from ≡ x → n ≡ 18
      by (Named.Name q) d =
          split (eqb flag 0) (λ t. absurd (z (sym (rw (lt-leb p.count i h, d, t) at e)))) (λ t. after q d t (string value_from) refl)
      by (Named.Refused r) d = told name_from r d (rw (lt-leb p.count i h, d) at e)

  good_property_of : (i : ℕ) → i < rec.props.count → prop_fault s rec i ≡ 0 → PropertyGood s rec.props i
  good_property_of i h e = property_good s rec fits i (prop_readable s rec i h e)

  property_fails : (n place : ℕ) → IsFirst (prop_fault s rec) 0 rec.props.count n place → PropertyFails s rec n place
  property_fails n place w =
      record {
        number = property_eighteen place n w.below w.fault w.is_one;
        counted = w.below;
        bad = λ good. w.is_one (sym w.fault ∙ readable_prop s rec place w.below (good_property s rec fits place good));
        before = λ i h. good_property_of i (omega (arith, h, w.below)) (w.earlier i (omega arith) h);
      }

  pub fails_property : (n place : ℕ) → PropertyFails s rec n place → IsFirst (prop_fault s rec) 0 rec.props.count n place
  fails_property n place f =
      let fault = prop_fault s rec place in
      record {
        from = omega arith;
        below = f.counted;
        fault = split (eqb fault 0)
            (λ t. absurd (f.bad (good_property_of place f.counted (eqb-true fault 0 t))))
            (λ t. property_eighteen place fault f.counted refl (eqb-false fault 0 t) ∙ sym f.number);
        is_one = λ z. let e = f.number in omega arith;
        earlier = λ i l h. readable_prop s rec i (omega (arith, h, f.counted)) (good_property s rec fits i (f.before i h));
      }

  code_first : (n place : ℕ) → IsFirst (code_fault s rec) 0 65536 n place → CodeFails s rec n place
  code_first n place w = by (glyph_of s rec.codes place) refl where
    by : (x : Found) → glyph_of s rec.codes place ≡ x → CodeFails s rec n place
    by (Found.Glyph g) e =
        record {
          coded = w.below;
          glyph = g.0;
          found = e;
          in_order = code_fails place g.0 e n w.fault w.is_one;
          before = λ code h l found. good_of code h found (w.earlier code (omega arith) l);
        }
    by (Found.Refused r) e = absurd (w.is_one (sym w.fault ∙ no_glyph_no_fault s rec place r e))

  first_code : (n place : ℕ) → CodeFails s rec n place → IsFirst (code_fault s rec) 0 65536 n place
  first_code n place f =
      record {
        from = omega arith;
        below = f.coded;
        fault = fails_code place f.glyph f.found n f.in_order;
        is_one = some_number place f.glyph f.found n f.in_order;
        earlier = λ code l h. good_code s rec fits code (λ g found. f.before code g h found);
      }

  -- the tests that pass and fail, in plain logic and back
  refuses : (n place : ℕ) → Fails s rec n place → RecordRefuses s rec n place
  refuses n place =
      ⊎_elim (λ (r, e, f). inl (λ w. never (sym (good_order b w) ∙ r), e, f))
      (⊎_elim (λ (r, h, e, f). inr (inl (order_good b r, λ w. never (sym h ∙ good_bounds bounds w), e, f)))
      (⊎_elim (λ (r, h, w). inr (inr (inl (order_good b r, bounds_good bounds h, property_fails n place w))))
      (λ (r, h, p, w).
      let properties : PropertiesGood s rec.props rec.props.count = λ i l. good_property_of i l (p i (omega arith) l) in
      inr (inr (inr (order_good b r, bounds_good bounds h, properties, code_first n place w))))))

  fails : (n place : ℕ) → RecordRefuses s rec n place → Fails s rec n place
  fails n place =
      ⊎_elim (λ (r, e, f). inl (split (unreadable b) (λ t. t) (λ t. absurd (r (order_good b t))), e, f))
      (⊎_elim
      (λ (r, h, e, f).
      let out : bounds_hold bounds ≡ false = split (bounds_hold bounds) (λ t. absurd (h (bounds_good bounds t))) (λ t. t) in
      inr (inl (good_order b r, out, e, f)))
      (⊎_elim (λ (r, h, w). inr (inr (inl (good_order b r, good_bounds bounds h, fails_property n place w))))
      (λ (r, h, p, w).
      let properties : Faultless (prop_fault s rec) 0 rec.props.count = λ i l k. readable_prop s rec i k (good_property s rec fits i (p i k)) in
      inr (inr (inr (good_order b r, good_bounds bounds h, properties, first_code n place w))))))

-- a font that loads is refused if and only if a condition fails, and then for the first that does: 27 before those on the record
pub vet_refuses : (s : List ℕ) (rec : Record) → loaded s ≡ Loaded.Font rec
    → (n place : ℕ) → (vetted s ≡ Vetted.Refused (refusal n place)) ↔ Refuses s rec n place
vet_refuses s rec l n place = (to, from) where
  -- where no format differs, by the conditions on the record
  by_record : FormatsAgree s → (vetted s ≡ Vetted.Refused (refusal n place)) ↔ RecordRefuses s rec n place
  by_record agree =
      let fits = loaded_serves false s rec l in
      let (to, from) = refused_when s rec (strict_agrees s agree ∙ l) n place in
      (λ e. refuses s rec fits n place (to e), λ w. from (fails s rec fits n place w))

  to : vetted s ≡ Vetted.Refused (refusal n place) → Refuses s rec n place
  to e =
      ⊎_elim
      (λ (k, first, comes, is).
      let told = sym e ∙ refused_load s (refusal 27 k) is in
      let number : n ≡ 27 = ap (λ (x : Vetted). (said_vetted x).number) told in
      let at : k ≡ place = ap (λ (x : Vetted). (said_vetted x).place) (sym told) in
      inl (number, subst (FirstDiffers s) at first))
      (λ (none, same). let agree = ((strict_passes s rec).0 (same ∙ l)).1 in inr (agree, (by_record agree).0 e))
      (strict_compared s)

  from : Refuses s rec n place → vetted s ≡ Vetted.Refused (refusal n place)
  from =
      ⊎_elim (λ (number, first). rw number (refused_load s (refusal 27 place) ((strict_27 s place).1 (first, rw l tt))))
      (λ (agree, w). (by_record agree).1 w)

-- Vetting passes a font exactly when document 01's conditions hold.
use mathlib.Core.Path.{◌≡◌, refl, sym, subst, ◌∙◌}
use mathlib.Core.Bool.{Bool, true, false, ◌&&◌}
use mathlib.Core.List.{List}
use mathlib.Core.Logic.{◌↔◌}
use Prim.Native.Nat.{ℕ, ◌+◌, ◌*◌, ◌<◌}
use native.Mathlib.Omega.{arith}
use lib.ListN.{length}
use lib.Dec.{T, leb, ltb}
use lib.IntN.{ℤ, pos, nat_abs}
use lib.Signed.{non_neg, le_z, ◌≤ℤ◌}
use borrow.Author.Tests.{lt-leb, le-ltb, leb-true, leb-false, ltb-false}
use Rattle.reads.specs.Num.{u32_at}
use Rattle.reads.specs.Said.{refusal}
use Rattle.reads.specs.declared.GlyphIndex.{GlyphIndex}
use Rattle.reads.proofs.Tests.{never, split, both}
use Rattle.tables.specs.Fits.{record_fits}
use Rattle.tables.specs.declared.BitmapData.{BitmapData}
use Rattle.tables.specs.declared.MetricsUnpacked.{MetricsUnpacked}
use Rattle.tables.specs.declared.Record.{Record}
use Rattle.tables.proofs.RecordParts.{prop_strings, name_strings, bitmap_bytes}
use Rattle.load.proofs.Serves.{loaded_serves}
use Rattle.load.proofs.StrictLoading.{strict_passes}
use Rattle.lookup.specs.Lookup.{glyph_of}
use Rattle.lookup.specs.declared.Found.{Found}
use Rattle.names.specs.Names.{name_of}
use Rattle.names.specs.declared.Named.{Named}
use Rattle.names.specs.declared.Span.{Span}
use Rattle.metrics.specs.Measure.{glyph_metrics}
use Rattle.names.proofs.EndsAtZero.{found_ends, ends_found}
use Rattle.bitmaps.specs.Units.{order_of, unit_bytes, byte_of}
use Rattle.bitmaps.specs.Picture.{unreadable, bits_of, row_of, rows_short}
use Rattle.bitmaps.proofs.DataBytes.{data_length}
use Rattle.bitmaps.proofs.RowsInside.{rows_inside, inside_rows}
use Rattle.place.specs.Bounds.{height_of, in_range, bounds_hold, bounds_of}
use Rattle.place.specs.Info.{placeable}
use Rattle.place.proofs.Held.{placed}
use Rattle.place.proofs.Whole.{from_zero}
use Rattle.vet.specs.Vet.{code_fault, vetted}
use Rattle.vet.specs.declared.Vetted.{Vetted}
use Rattle.vet.proofs.CodesInRange.{no_glyph_no_fault}
use Rattle.vet.proofs.PassedCodes.{Usable, usable_code, code_usable, passed_usable}
use Rattle.vet.proofs.PassedProps.{Readable, readable_prop, prop_readable}
use Rattle.vet.proofs.Verdict.{passes_when}
use Rattle.promises.specs.Passing.{HasGlyph, OrderGood, BoundsGood, MetricsGood, PropertyGood, RowsGood, NameEnds, GlyphGood, Passes}

-- a test that holds, as an order, and back
holds : (a b : ℤ) → le_z a b ≡ true → a ≤ℤ b
holds a b e = record { le = subst T (sym e) tt }

told : (a b : ℤ) → a ≤ℤ b → le_z a b ≡ true
told a b h = split (le_z a b) (λ t. t) (λ t. absurd (subst T t h.le))

natural : (z : ℤ) → non_neg z ≡ true → pos 0 ≤ℤ z
natural z e = holds (pos 0) z (from_zero z ∙ e)

natural_told : (z : ℤ) → pos 0 ≤ℤ z → non_neg z ≡ true
natural_told z h = sym (from_zero z) ∙ told (pos 0) z h

ranged : (z : ℤ) → in_range z ≡ true → (pos 0 ≤ℤ z) × (z ≤ℤ pos 32767)
ranged z e = let (a, b) = both (non_neg z) (le_z z (pos 32767)) e in (natural z a, holds z (pos 32767) b)

ranged_told : (z : ℤ) → pos 0 ≤ℤ z → z ≤ℤ pos 32767 → in_range z ≡ true
ranged_told z a b = rw (natural_told z a, told z (pos 32767) b) refl

-- 13
pub order_good : (b : BitmapData) → unreadable b ≡ false → OrderGood b
order_good b e =
    let bytes = unit_bytes b.unit in
    split (leb 3 b.unit) (λ t. never (sym (rw t at e)))
    (λ t. split (ltb b.pad bytes) (λ u. never (sym (rw (t, u) at e)))
    (λ u. record { unit = leb-false 3 b.unit t; pad = ltb-false b.pad bytes u }))

pub good_order : (b : BitmapData) → OrderGood b → unreadable b ≡ false
good_order b w = rw (lt-leb 3 b.unit w.unit, le-ltb b.pad (unit_bytes b.unit) w.pad) refl

-- 11, of the bounds
pub bounds_good : (m : MetricsUnpacked) → bounds_hold m ≡ true → BoundsGood m
unfolding bounds_hold
bounds_good m e =
    let (up-to-width, sum) = both (non_neg m.ascent && non_neg m.width) (in_range (height_of m)) e in
    let (ascent, width) = both (non_neg m.ascent) (non_neg m.width) up-to-width in
    let (least, most) = ranged (height_of m) sum in
    record { ascent = natural m.ascent ascent; width = natural m.width width; least = least; most = most }

pub good_bounds : (m : MetricsUnpacked) → BoundsGood m → bounds_hold m ≡ true
unfolding bounds_hold
good_bounds m w =
    rw (natural_told m.ascent w.ascent, natural_told m.width w.width, ranged_told (height_of m) w.least w.most) refl

-- 11, of a glyph
pub metrics_good : (m : MetricsUnpacked) (top : ℤ) → placeable m top ≡ true → MetricsGood m top
metrics_good m top e =
    let p = placed m top e in
    let (least, most) = ranged (height_of m) p.height in
    record {
      width = natural m.width p.width;
      ascent = natural m.ascent p.ascent;
      left = natural m.left p.left;
      least = least;
      most = most;
      below = holds m.ascent top p.below;
    }

pub good_metrics : (m : MetricsUnpacked) (top : ℤ) → MetricsGood m top → placeable m top ≡ true
unfolding placeable
good_metrics m top w =
    rw (
      natural_told m.width w.width,
      natural_told m.ascent w.ascent,
      natural_told m.left w.left,
      ranged_told (height_of m) w.least w.most,
      told m.ascent top w.below,
    ) refl

-- the rest, of a record whose regions lie in the bytes
module _ (s : List ℕ) (rec : Record) (fits : record_fits (length s) rec ≡ true) where
  pub data_size : length (bits_of s rec.bitmaps) ≡ rec.bitmaps.size
  data_size =
      let b = rec.bitmaps in
      omega (arith, data_length s b, leb-true (b.bits + b.size) (length s) (bitmap_bytes (length s) rec fits))

  -- 14
  module _ (g : ℕ) where
    abbrev measures : MetricsUnpacked
    measures = glyph_metrics s rec.metrics g

    abbrev short : Bool
    short = rows_short s rec.bitmaps g (nat_abs measures.width) (nat_abs (height_of measures))

    pub rows_good : short ≡ false → RowsGood s rec g
    rows_good e r c h l =
        subst (λ size. row_of s rec.bitmaps g (nat_abs measures.width) r + byte_of (order_of rec.bitmaps) c < size) data_size
        (rows_inside s rec.bitmaps g (nat_abs measures.width) (nat_abs (height_of measures)) e r c h l)

    pub good_rows : RowsGood s rec g → short ≡ false
    good_rows w =
        inside_rows s rec.bitmaps g (nat_abs measures.width) (nat_abs (height_of measures)) (λ r c h l.
        subst (λ size. row_of s rec.bitmaps g (nat_abs measures.width) r + byte_of (order_of rec.bitmaps) c < size) (sym data_size) (w r c h l))

  -- 18, of a property
  pub property_good : (i : ℕ) → Readable s rec.props i → PropertyGood s rec.props i
  property_good i r =
      let p = rec.props in
      record {
        name = found_ends s p.strings p.size (u32_at p.big s (p.records + 9 * i)) r.name r.is_named;
        value = λ z. let (text, e) = r.has_value z in found_ends s p.strings p.size (u32_at p.big s (p.records + 9 * i + 5)) text e;
      }

  pub good_property : (i : ℕ) → PropertyGood s rec.props i → Readable s rec.props i
  good_property i w =
      let p = rec.props in
      let room = prop_strings (length s) rec fits in
      let (name, e) = ends_found s p.strings p.size (u32_at p.big s (p.records + 9 * i)) room w.name in
      record {
        name = name;
        is_named = e;
        has_value = λ z. ends_found s p.strings p.size (u32_at p.big s (p.records + 9 * i + 5)) room (w.value z);
      }

  -- 17, 18
  abbrev offset : ℕ → ℕ
  offset g = u32_at rec.names.big s (rec.names.offsets + 4 * g)

  name_good : (g : ℕ) (p : Span) → name_of s rec.names g ≡ Named.Name p → (g < rec.names.count) × NameEnds s rec.names g
  unfolding name_of
  name_good g p e =
      let n = rec.names in
      split (leb n.count g) (λ t. absurd (let z : Named.Refused (refusal 17 0) ≡ Named.Name p = rw t at e in let q : ◌≡◌ {A = ℕ} 0 1 = cc in omega arith))
      (λ t. (leb-false n.count g t, found_ends s n.strings n.size (offset g) p (rw t at e)))

  good_name : (g : ℕ) → g < rec.names.count → NameEnds s rec.names g → (p : Span) × (name_of s rec.names g ≡ Named.Name p)
  unfolding name_of
  good_name g h w =
      let n = rec.names in
      let (p, e) = ends_found s n.strings n.size (offset g) (name_strings (length s) rec fits) w in
      (p, rw (lt-leb n.count g h) e)

  -- 10, 11, 12, 14, and those
  module _ (g : GlyphIndex) where
    abbrev m : MetricsUnpacked
    m = glyph_metrics s rec.metrics g.0

    pub glyph_good : Usable s rec g → GlyphGood s rec g.0
    glyph_good u =
        let (counted, ends) = name_good g.0 u.name u.is_named in
        record {
          measured = leb-false rec.metrics.count g.0 u.is_measured;
          metrics = metrics_good m (bounds_of rec).ascent u.in_range_lem;
          pictured = leb-false rec.bitmaps.count g.0 u.has_bitmap;
          rows = rows_good g.0 u.has_rows;
          counted = counted;
          ends = ends;
        }

    pub good_glyph : GlyphGood s rec g.0 → Usable s rec g
    good_glyph w =
        let (name, is_named) = good_name g.0 w.counted w.ends in
        record {
          is_measured = lt-leb rec.metrics.count g.0 w.measured;
          in_range_lem = good_metrics m (bounds_of rec).ascent w.metrics;
          has_bitmap = lt-leb rec.bitmaps.count g.0 w.pictured;
          has_rows = good_rows g.0 w.rows;
          name = name;
          is_named = is_named;
        }

  -- a code is without fault if its glyph is good, or if it has none
  pub good_code : (code : ℕ) → ((g : ℕ) → HasGlyph s rec code g → GlyphGood s rec g) → code_fault s rec code ≡ 0
  good_code code w = by (glyph_of s rec.codes code) refl where
    by : (x : Found) → glyph_of s rec.codes code ≡ x → code_fault s rec code ≡ 0
    by (Found.Glyph g) e = usable_code s rec code g e (good_glyph g (w g.0 e))
    by (Found.Refused r) e = no_glyph_no_fault s rec code r e

-- vetting passes if and only if loading does and each condition holds, of all formats, all properties, all codes, all their rows
pub vet_passes : (s : List ℕ) (rec : Record) → (vetted s ≡ Vetted.Passed rec) ↔ Passes s rec
vet_passes s rec = (to, from) where
  to : vetted s ≡ Vetted.Passed rec → Passes s rec
  to e =
      let (strictly, w) = (passes_when s rec).0 e in
      let (loads, formats) = (strict_passes s rec).0 strictly in
      let fits = loaded_serves false s rec loads in
      record {
        loads = loads;
        formats = formats;
        order = order_good rec.bitmaps w.readable;
        bounds = bounds_good (bounds_of rec) w.bounds;
        properties = λ i h. property_good s rec fits i (prop_readable s rec i h (w.properties i (omega arith) h));
        codes = λ code g h e. glyph_good s rec fits (record { 0 = g }) (code_usable s rec code (record { 0 = g }) e (w.codes code (omega arith) h));
      }

  from : Passes s rec → vetted s ≡ Vetted.Passed rec
  from w =
      let fits = loaded_serves false s rec w.loads in
      (passes_when s rec).1 (
        (strict_passes s rec).1 (w.loads, w.formats),
        record {
          readable = good_order rec.bitmaps w.order;
          bounds = good_bounds (bounds_of rec) w.bounds;
          properties = λ i l h. readable_prop s rec i h (good_property s rec fits i (w.properties i h));
          codes = λ code l h. good_code s rec fits code (λ g e. w.codes code g h e);
        },
      )

-- "A passed font": each of its codes, of whatever size, has a good glyph or none
pub passed_glyph : (s : List ℕ) (rec : Record) → vetted s ≡ Vetted.Passed rec → (code g : ℕ) → HasGlyph s rec code g → GlyphGood s rec g
passed_glyph s rec e code g h =
    glyph_good s rec (loaded_serves true s rec ((passes_when s rec).0 e).0) (record { 0 = g }) (passed_usable s rec e code (record { 0 = g }) h)

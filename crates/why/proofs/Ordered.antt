-- The reason of a code, of a glyph and of a placed glyph, by the tests that the code makes in their order.
use Prim.Native.Nat.{ℕ, ◌-◌, ◌^◌, ◌≤◌, ◌<◌, min}
use mathlib.Core.Path.{◌≡◌, refl, sym, ap, ◌∙◌}
use mathlib.Core.Bool.{Bool, true, false, cond}
use mathlib.Core.List.{List}
use native.Mathlib.Omega.{arith}
use lib.Dec.{leb}
use lib.IntN.{ℤ}
use mir.Syntax.{w8, w16}
use mir.Val.{Fits}
use borrow.Author.Tests.{lt-ltb, le-ltb}
use Rattle.reads.specs.Said.{refusal}
use Rattle.reads.specs.declared.GlyphIndex.{GlyphIndex}
use Rattle.reads.specs.declared.Refusal.{Refusal}
use Rattle.reads.proofs.Tests.{split}
use Rattle.tables.specs.Fits.{guard}
use Rattle.tables.specs.declared.BitmapData.{BitmapData}
use Rattle.tables.specs.declared.EncodingData.{EncodingData}
use Rattle.tables.specs.declared.MetricsUnpacked.{MetricsUnpacked}
use Rattle.tables.specs.declared.Permit.{Permit}
use Rattle.tables.specs.declared.Record.{Record}
use Rattle.tables.proofs.Guarded.{given_passes, guarded_answers, guarded_refuses}
use Rattle.modes.specs.declared.Mode.{Mode}
use Rattle.lookup.specs.Served.{itself, served}
use Rattle.lookup.specs.declared.Served.{Served}
use Rattle.lookup.specs.declared.Supplier.{Supplier}
use Rattle.metrics.specs.Measure.{glyph_metrics, metrics_of}
use Rattle.bitmaps.specs.Place.{Place, place_at}
use Rattle.bitmaps.specs.Limits.{ok_place}
use Rattle.bitmaps.specs.Cut.{drawn_rows}
use Rattle.bitmaps.specs.Picture.{no_bitmap, unreadable, rows_short, glyph_bit, pixel_past}
use Rattle.bitmaps.proofs.CutRule.{drawn_none, drawn_within}
use Rattle.bitmaps.proofs.NoDots.{none_found}
use Rattle.outcome.proofs.WithinLimits.{place_limits}
use Rattle.place.specs.Bounds.{bounds_of}
use Rattle.place.specs.Info.{placeable, boxed, box_of, info_of}
use Rattle.place.specs.declared.GlyphInfo.{GlyphInfo}
use Rattle.place.specs.declared.Prepared.{Prepared}
use Rattle.glyphs.specs.Glyph.{place_of}
use Rattle.glyphs.proofs.Far.{capped}
use Rattle.why.specs.Codes.{first_outside, second_outside}
use Rattle.why.specs.Reasons.{some_bit, drawn_reason, rows_reason, placed_reason, glyph_reason, code_reason, reason_of}
use Rattle.why.specs.Why.{reason_number, why_of}
use Rattle.why.specs.declared.Reason.{Reason}
use Rattle.why.specs.declared.Told.{Told}

-- ---- a code without a glyph to show it

module _ (c : EncodingData) (code : ℕ) where
  pub above_codes : 65535 < code → Reason.AboveCodes ≡ code_reason c code
  unfolding code_reason
  above_codes h = rw (lt-ltb _ _ h)

  module _ (near : code ≤ 65535) (first : Bool) (first_is : first ≡ first_outside c code) where
    pub first_byte : first ≡ true → Reason.FirstByte ≡ code_reason c code
    unfolding code_reason
    first_byte e = rw (le-ltb _ _ near, ← first_is, e)

    module _ (first_in : first ≡ false) (second : Bool) (second_is : second ≡ second_outside c code) where
      pub second_byte_lem : second ≡ true → Reason.SecondByte ≡ code_reason c code
      unfolding code_reason
      second_byte_lem e = rw (le-ltb _ _ near, ← first_is, first_in, ← second_is, e)

      pub empty_entry : second ≡ false → Reason.EmptyEntry ≡ code_reason c code
      unfolding code_reason
      empty_entry e = rw (le-ltb _ _ near, ← first_is, first_in, ← second_is, e)

-- ---- a character

module _ (s : List ℕ) (rec : Record) (mode : Mode) (code len : ℕ) (at : Place) (found : Served) (found-is : found ≡ served s rec.codes mode code)
    (reason : Reason) where
  pub none_served : (r : Refusal) → found ≡ Served.Refused r → reason ≡ code_reason rec.codes code
      → Told.Because reason (itself code) ≡ reason_of s rec mode code len at
  unfolding reason_of
  none_served r e is = rw (← found-is, e) (ap (λ (x : Reason). Told.Because x (itself code)) is)

  pub some_served : (g : GlyphIndex) (by : Supplier) → found ≡ Served.Glyph g by → reason ≡ glyph_reason s rec g len at
      → Told.Because reason by ≡ reason_of s rec mode code len at
  unfolding reason_of
  some_served g by e is = rw (← found-is, e) (ap (λ (x : Reason). Told.Because x by) is)

-- ---- a glyph

module _ (s : List ℕ) (rec : Record) (g : GlyphIndex) (len : ℕ) (at : Place) (prepared : Prepared)
    (prepared-is : prepared ≡ info_of s rec.metrics (bounds_of rec) g) where
  abbrev m : MetricsUnpacked
  m = glyph_metrics s rec.metrics g.0

  abbrev top : ℤ
  top = (bounds_of rec).ascent

  abbrev counted : Bool
  counted = leb rec.metrics.count g.0

  placing : prepared ≡ cond counted (Prepared.Refused (refusal 10 0)) (boxed g m top)
  unfolding info_of metrics_of
  placing = split counted (λ t. rw t (rw t at prepared-is)) (λ t. rw t (rw t at prepared-is))

  module _ (r : Refusal) (e : prepared ≡ Prepared.Refused r) where
    refused : cond counted (Prepared.Refused (refusal 10 0)) (boxed g m top) ≡ Prepared.Refused r
    refused = sym placing ∙ e

    pub no_metrics_lem : r.number ≡ 10 → Reason.NoMetrics ≡ glyph_reason s rec g len at
    unfolding glyph_reason
    no_metrics_lem h =
        split counted (λ t. rw t)
        (λ t. split (placeable m top)
        (λ u. let z : ◌≡◌ {A = ℕ} 0 1 = cc (rw (t, u) at refused) in absurd (omega arith))
        (λ u. let q : refusal 11 0 ≡ r = cc (rw (t, u) at refused) in absurd (omega (arith, ap (λ (x : Refusal). x.number) q))))

    pub bad_metrics : (r.number ≡ 10 → ⊥) → Reason.BadMetrics ≡ glyph_reason s rec g len at
    unfolding glyph_reason
    bad_metrics h =
        split counted
        (λ t. let q : refusal 10 0 ≡ r = cc (rw t at refused) in absurd (h (ap (λ (x : Refusal). x.number) (sym q))))
        (λ t. split (placeable m top)
        (λ u. let z : ◌≡◌ {A = ℕ} 0 1 = cc (rw (t, u) at refused) in absurd (omega arith))
        (λ u. rw (t, u)))

  pub some_box : (i : GlyphInfo) (reason : Reason) → prepared ≡ Prepared.Info i → reason ≡ placed_reason s rec.bitmaps i len at
      → reason ≡ glyph_reason s rec g len at
  unfolding glyph_reason
  some_box i reason info is =
      let there = sym placing ∙ info in
      split counted (λ t. let z : ◌≡◌ {A = ℕ} 0 1 = cc (rw t at there) in absurd (omega arith))
      (λ t. split (placeable m top)
      (λ u. let same : i ≡ box_of g m top = cc (rw (t, u) at there) in rw (t, u, ← same) is)
      (λ u. let z : ◌≡◌ {A = ℕ} 0 1 = cc (rw (t, u) at there) in absurd (omega arith)))

-- ---- a placed glyph

module _ (s : List ℕ) (b : BitmapData) (i : GlyphInfo) (len stride scale : ℕ) where
  module _ (p n : ℕ) (n-is : n ≡ drawn_rows len (place_at p stride scale) i.height) (short : Bool)
      (short-is : short ≡ rows_short s b i.glyph.0 i.width n) where
    all_drawn : i.height ≤ n → n ≡ i.height
    all_drawn whole = omega (arith, whole, n-is, drawn_within len (place_at p stride scale) i.height)

    pub bitmap_short : short ≡ true → Reason.BitmapShort ≡ rows_reason s b i len (place_at p stride scale)
    bitmap_short e = rw (← n-is, ← short-is, e)

    module _ (all : short ≡ false) where
      pub rows_there : rows_short s b i.glyph.0 i.width n ≡ false
      rows_there = sym short-is ∙ all

      -- where no row is cut, all are there
      pub all_there : i.height ≤ n → rows_short s b i.glyph.0 i.width i.height ≡ false
      all_there whole = let e = all_drawn whole in rw e at rows_there

      module _ (past : Bool) (past_is : past ≡ pixel_past s b i.glyph.0 i.width i.width (place_at p stride scale) n len) where
        pub buffer_short : past ≡ true → Reason.BufferShort ≡ rows_reason s b i len (place_at p stride scale)
        buffer_short e = rw (← n-is, ← short-is, all, ← past_is, e)

        module _ (inside : past ≡ false) where
          drawn_so : drawn_reason s b i n ≡ rows_reason s b i len (place_at p stride scale)
          drawn_so = rw (← n-is, ← short-is, all, ← past_is, inside) refl

          pub rows_cut : n < i.height → Reason.RowsCut (i.height - n) ≡ rows_reason s b i len (place_at p stride scale)
          rows_cut h = rw (lt-ltb n i.height h) at drawn_so

          module _ (whole : i.height ≤ n) (bit : Bool) (bit_is : bit ≡ some_bit s b i.glyph.0 i.width i.height) where
            seen_or_not : cond bit Reason.Drawn Reason.Blank ≡ rows_reason s b i len (place_at p stride scale)
            seen_or_not = rw bit_is (rw (all_drawn whole, le-ltb i.height i.height (omega arith)) at drawn_so)

            pub is_drawn : bit ≡ true → Reason.Drawn ≡ rows_reason s b i len (place_at p stride scale)
            is_drawn t = rw t at seen_or_not

            pub is_blank : bit ≡ false → Reason.Blank ≡ rows_reason s b i len (place_at p stride scale)
            is_blank t = rw t at seen_or_not

  -- past the buffer one place is as another
  far : (p q : ℕ) → len ≤ p → len ≤ q → rows_reason s b i len (place_at p stride scale) ≡ rows_reason s b i len (place_at q stride scale)
  far p q h k =
      rw (
        drawn_none len (place_at p stride scale) i.height h,
        drawn_none len (place_at q stride scale) i.height k,
        none_found (glyph_bit s b i.glyph.0 i.width) (place_at p stride scale) i.width 0 (λ r c a h l m. omega arith) (λ j. leb len j),
        none_found (glyph_bit s b i.glyph.0 i.width) (place_at q stride scale) i.width 0 (λ r c a h l m. omega arith) (λ j. leb len j),
      ) refl

  module _ (start : ℕ) (none : Bool) (none_is : none ≡ no_bitmap b i.glyph.0) where
    pub no_bitmap_lem : none ≡ true → Reason.NoBitmap ≡ placed_reason s b i len (place_at start stride scale)
    unfolding placed_reason
    no_bitmap_lem e = rw (← none_is, e)

    module _ (there : none ≡ false) (unread : Bool) (unread-is : unread ≡ unreadable b) where
      pub bit_order : unread ≡ true → Reason.BitOrder ≡ placed_reason s b i len (place_at start stride scale)
      unfolding placed_reason
      bit_order e = rw (← none_is, there, ← unread-is, e)

      pub by_rows : (p : ℕ) (reason : Reason) → unread ≡ false → p ≡ min 18446744073709551615 (place_of i (place_at start stride scale)).p
          → len < 2 ^ 64 → reason ≡ rows_reason s b i len (place_at p stride scale) → reason ≡ placed_reason s b i len (place_at start stride scale)
      unfolding placed_reason
      by_rows p reason readable p-is fits is =
          rw (← none_is, there, ← unread-is, readable)
          (is ∙ rw p-is (capped (λ q. rows_reason s b i len (place_at q stride scale)) len 18446744073709551615 (place_of i (place_at start stride scale)).p far (omega arith)))

-- ---- the number of a reason that a match found

pub of_reason : (reason case : Reason) → reason ≡ case → reason_number case ≡ reason_number reason
of_reason reason case e = ap reason_number (sym e)

-- ---- the call

module _ (s : List ℕ) (rec : Record) (mode : Mode) (code len : ℕ) (at : Place) (place : Bool) (permit : Permit) (place_is : place ≡ ok_place at)
    (permit-is : permit ≡ guard s rec place) where
  pub told_reason : (told : Told) → permit ≡ Permit.Given → told ≡ reason_of s rec mode code len at → told ≡ why_of s rec mode code len at
  unfolding why_of
  told_reason told e is = rw (← place_is) (is ∙ sym (guarded_answers s rec place permit permit-is Told.Refused (reason_of s rec mode code len at) e))

  pub told_refused : (r : Refusal) → permit ≡ Permit.Refused r → Told.Refused r ≡ why_of s rec mode code len at
  unfolding why_of
  told_refused r e = rw (← place_is) (sym (guarded_refuses s rec place permit permit-is Told.Refused (reason_of s rec mode code len at) r e))

-- a permit is given where the place is within its limits
module _ (s : List ℕ) (rec : Record) (start stride scale : ℕ) (place : Bool) (permit : Permit) (place_is : place ≡ ok_place (place_at start stride scale))
    (permit-is : permit ≡ guard s rec place) (given : permit ≡ Permit.Given) where
  within : ok_place (place_at start stride scale) ≡ true
  within = sym place_is ∙ (given_passes s rec place permit permit-is given).1

  pub stride_fits : Fits w16 stride
  stride_fits = omega (arith, place_limits start stride scale within)

  pub scale_fits : Fits w8 scale
  scale_fits = omega (arith, place_limits start stride scale within)

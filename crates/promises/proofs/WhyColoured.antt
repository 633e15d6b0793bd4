-- Of a character that is drawn some pixel gets the colour, and of one that is blank none.
use Prim.Native.Nat.{ℕ, ◌+◌, ◌*◌, ◌<◌}
use mathlib.Core.Path.{◌≡◌, refl, sym, subst, ◌∙◌}
use mathlib.Core.Bool.{true, false}
use mathlib.Core.List.{List}
use native.Mathlib.Omega.{arith}
use lib.Dec.{leb}
use borrow.Author.Tests.{leb-true, leb-false}
use Rattle.reads.proofs.Tests.{never, split}
use Rattle.tables.specs.declared.BitmapData.{BitmapData}
use Rattle.tables.specs.declared.MetricsUnpacked.{MetricsUnpacked}
use Rattle.tables.specs.declared.Record.{Record}
use Rattle.modes.specs.declared.Mode.{Mode}
use Rattle.lookup.specs.declared.Supplier.{Supplier}
use Rattle.metrics.specs.Measure.{glyph_metrics, metrics_of}
use Rattle.bitmaps.specs.Place.{Place}
use Rattle.bitmaps.specs.Picture.{no_bitmap, unreadable, rows_short, pixel_past}
use Rattle.bitmaps.specs.Draw.{rows_of, shown_at}
use Rattle.place.specs.Bounds.{bounds_of}
use Rattle.place.specs.Info.{placeable, info_of, prepared}
use Rattle.place.specs.declared.GlyphInfo.{GlyphInfo}
use Rattle.glyphs.specs.Glyph.{place_of, glyph_drawn}
use Rattle.glyphs.specs.Char.{char_ready, draw_char}
use Rattle.glyphs.specs.declared.CharDrawn.{CharDrawn}
use Rattle.why.specs.Why.{why_of}
use Rattle.why.specs.declared.Reason.{Reason}
use Rattle.why.specs.declared.Told.{Told}
use Rattle.promises.specs.Drawing.{Coloured, char_coloured}
use Rattle.promises.specs.Serving.{ShownBy}
use Rattle.promises.specs.Why.{box_in, rows_in, bit_in, PixelBeyond, TrueOf, rank, Askable}
use Rattle.promises.proofs.Coloured.{dot_past}
use Rattle.promises.proofs.Serving.{served_exactly}
use Rattle.promises.proofs.Vetting.{good_order, good_metrics}
use Rattle.promises.proofs.WhyFirst.{short_beyond, within_limits, why_first}

module _ (s : List ℕ) (rec : Record) (mode : Mode) (code len : ℕ) (at : Place) where
  -- nothing before rows cut is true
  abbrev Unhindered : Type 0
  Unhindered = (other : Reason) → rank other < rank (Reason.RowsCut 0) → TrueOf s rec mode code len at other → ⊥

  -- a glyph that nothing hinders
  module _ (asked : Askable s rec at) (g : ℕ) (by : Supplier) (shown : ShownBy s rec mode code g by) (none : Unhindered) where
    abbrev b : BitmapData
    b = rec.bitmaps

    abbrev m : MetricsUnpacked
    m = glyph_metrics s rec.metrics g

    abbrev box : GlyphInfo
    box = box_in s rec g

    abbrev n : ℕ
    n = rows_in s rec len at g

    counted : leb rec.metrics.count g ≡ false
    counted =
        split (leb rec.metrics.count g)
        (λ t. absurd (none Reason.NoMetrics (omega arith) (record { glyph = g; by = by; shown = shown; holds = leb-true rec.metrics.count g t }))) (λ t. t)

    in_range_lem : placeable m (bounds_of rec).ascent ≡ true
    in_range_lem =
        split (placeable m (bounds_of rec).ascent) (λ t. t)
        (λ t. absurd (none Reason.BadMetrics (omega arith) (record {
          glyph = g;
          by = by;
          shown = shown;
          holds = λ good. never (sym t ∙ good_metrics m (bounds_of rec).ascent good);
        })))

    pictured : no_bitmap b g ≡ false
    pictured =
        split (no_bitmap b g)
        (λ t. absurd (none Reason.NoBitmap (omega arith) (record { glyph = g; by = by; shown = shown; holds = leb-true b.count g t }))) (λ t. t)

    readable : unreadable b ≡ false
    readable = split (unreadable b) (λ t. absurd (none Reason.BitOrder (omega arith) (λ good. never (sym (good_order b good) ∙ t)))) (λ t. t)

    there : rows_short s b g box.width n ≡ false
    there =
        split (rows_short s b g box.width n)
        (λ t. absurd (none Reason.BitmapShort (omega arith) (record {
          glyph = g;
          by = by;
          shown = shown;
          holds = short_beyond s rec mode code len at asked.fits (record { 0 = g }) by ((served_exactly s rec mode code g by).1 shown) t;
        })))
        (λ t. t)

    no_pixel : PixelBeyond s rec len at g → ⊥
    no_pixel w = none Reason.BufferShort (omega arith) (record { glyph = g; by = by; shown = shown; holds = w })

    room : pixel_past s b g box.width box.width (place_of box at) n len ≡ false
    room =
        split (pixel_past s b g box.width box.width (place_of box at) n len)
        (λ t.
        let (i, beyond, lit) = dot_past (bit_in s rec len at g) (place_of box at) box.width n len t in
        absurd (no_pixel (record { i = i; beyond = beyond; coloured = lit })))
        (λ t. t)

    -- is drawn, with these rows
    drawn_so : draw_char s rec mode code len at ≡ CharDrawn.Glyph box (rows_of box.height n) by
    unfolding draw_char char_ready prepared info_of metrics_of glyph_drawn shown_at
    drawn_so = rw (asked.fits, within_limits s rec mode code len at asked, (served_exactly s rec mode code g by).1 shown, counted, in_range_lem, pictured, readable, there, room)

  -- some pixel of the buffer gets the colour
  pub drawn_coloured : (by : Supplier) → why_of s rec mode code len at ≡ Told.Because Reason.Drawn by
      → (i : ℕ) × (i < len) × char_coloured s rec.bitmaps at (draw_char s rec mode code len at) i
  drawn_coloured spoken e =
      let (asked, first, told) = (why_first s rec mode code len at Reason.Drawn spoken).0 e in
      let g = first.is_true.glyph in
      let by = first.is_true.by in
      let shown = first.is_true.shown in
      let none : Unhindered = λ other h w. first.none_before other (omega arith) w in
      let set = first.is_true.holds in
      let p = (place_of (box_in s rec g) at).p in
      let i = p + set.r * at.stride * at.scale + set.c * at.scale + 0 * at.stride + 0 in
      let lit : Coloured (bit_in s rec len at g) (place_of (box_in s rec g) at) (box_in s rec g).width (rows_in s rec len at g) i =
      record {
        r = set.r;
        c = set.c;
        a = 0;
        b = 0;
        r_below = set.r_below;
        c_below = set.c_below;
        a_below = asked.scale_low;
        b_below = asked.scale_low;
        is_set = set.is_set;
        is_there = refl;
      }
      in (
        i,
        split (leb len i)
            (λ t. absurd (no_pixel asked g by shown none (record { i = i; beyond = leb-true len i t; coloured = lit }))) (λ t. leb-false len i t),
        subst (λ (d : CharDrawn). char_coloured s rec.bitmaps at d i) (sym (drawn_so asked g by shown none)) lit,
      )

  -- none does
  pub blank_uncoloured : (by : Supplier) → why_of s rec mode code len at ≡ Told.Because Reason.Blank by
      → (i : ℕ) → char_coloured s rec.bitmaps at (draw_char s rec mode code len at) i → ⊥
  blank_uncoloured spoken e i lit =
      let (asked, first, told) = (why_first s rec mode code len at Reason.Blank spoken).0 e in
      let g = first.is_true.glyph in
      let by = first.is_true.by in
      let shown = first.is_true.shown in
      let none : Unhindered = λ other h w. first.none_before other (omega arith) w in
      let d : Coloured (bit_in s rec len at g) (place_of (box_in s rec g) at) (box_in s rec g).width (rows_in s rec len at g) i =
      subst (λ (d : CharDrawn). char_coloured s rec.bitmaps at d i) (drawn_so asked g by shown none) lit
      in
      first.is_true.holds (record { r = d.r; c = d.c; r_below = d.r_below; c_below = d.c_below; is_set = d.is_set })

-- A reason goes with what drawing the same character answers: rows cut, blank and drawn exactly with rows of a glyph that has a bitmap, and
-- each of the others exactly with the refusal of its number, or with no bitmap.
use Prim.Native.Nat.{ℕ, ◌-◌}
use mathlib.Core.Path.{◌≡◌, refl, ap}
use mathlib.Core.List.{List}
use mathlib.Core.Logic.{◌⊎◌, inl, inr}
use native.Mathlib.Omega.{arith}
use lib.Dec.{leb, ltb}
use lib.ListN.{length}
use borrow.Author.Tests.{ltb-false}
use Rattle.reads.specs.Said.{refusal}
use Rattle.reads.specs.declared.GlyphIndex.{GlyphIndex}
use Rattle.reads.proofs.Tests.{split, choose}
use Rattle.tables.specs.Fits.{record_fits}
use Rattle.tables.specs.declared.BitmapData.{BitmapData}
use Rattle.tables.specs.declared.Record.{Record}
use Rattle.modes.specs.declared.Mode.{Mode}
use Rattle.lookup.specs.Served.{served}
use Rattle.lookup.specs.declared.Served.{Served}
use Rattle.lookup.specs.declared.Supplier.{Supplier}
use Rattle.metrics.specs.Measure.{glyph_metrics, metrics_of}
use Rattle.bitmaps.specs.Place.{Place}
use Rattle.bitmaps.specs.Limits.{ok_place}
use Rattle.bitmaps.specs.Cut.{drawn_rows}
use Rattle.bitmaps.specs.Picture.{no_bitmap, unreadable, rows_short, pixel_past}
use Rattle.bitmaps.specs.Draw.{shown_at}
use Rattle.place.specs.Bounds.{bounds_of}
use Rattle.place.specs.Info.{placeable, info_of, info_in, placed_by, prepared, prepared_in}
use Rattle.place.specs.declared.GlyphInfo.{GlyphInfo}
use Rattle.place.specs.declared.CharPrepared.{CharPrepared}
use Rattle.glyphs.specs.Glyph.{place_of, glyph_drawn}
use Rattle.glyphs.specs.Char.{with_info, char_of, char_ready, draw_char}
use Rattle.why.specs.Codes.{first_outside, second_outside}
use Rattle.why.specs.Reasons.{some_bit, drawn_reason, placed_reason, glyph_reason, code_reason, reason_of}
use Rattle.why.specs.Why.{why_of}
use Rattle.why.specs.declared.Reason.{Reason}
use Rattle.promises.specs.Serving.{ShownBy}
use Rattle.promises.specs.Why.{Outcome, refused, rows, outcome_of, outcome_with, told_outcome, box_in}
use Rattle.promises.proofs.Serving.{served_or_9, served_exactly}

module _ (s : List ℕ) (rec : Record) (mode : Mode) (code len : ℕ) (at : Place) where
  abbrev b : BitmapData
  b = rec.bitmaps

  -- what came of drawing a glyph that was placed so, or was not
  abbrev outcome : CharPrepared → Outcome
  outcome p = outcome_of b (with_info p (λ i by. char_of i by (glyph_drawn s b i len at)))

  -- ---- a placed glyph

  module _ (by : Supplier) (i : GlyphInfo) where
    abbrev n : ℕ
    n = drawn_rows len (place_of i at) i.height

    drawn_rows_lem : rows (i.height - n) ≡ outcome_with (drawn_reason s b i n)
    drawn_rows_lem =
        choose (λ (q : Reason). rows (i.height - n) ≡ outcome_with q) (ltb n i.height) (λ t. refl)
        (λ t.
        let none : i.height - n ≡ 0 = omega (arith, ltb-false n i.height t) in
        choose (λ (q : Reason). rows (i.height - n) ≡ outcome_with q) (some_bit s b i.glyph.0 i.width n) (λ u. ap rows none) (λ u. ap rows none))

    placed_outcome : outcome (CharPrepared.Info i by) ≡ outcome_with (placed_reason s b i len at)
    unfolding placed_reason glyph_drawn shown_at
    placed_outcome =
        split (no_bitmap b i.glyph.0) (λ t. rw (t, t))
        (λ t. split (unreadable b) (λ u. rw (t, u))
        (λ u. split (rows_short s b i.glyph.0 i.width n) (λ v. rw (t, u, v))
        (λ v. split (pixel_past s b i.glyph.0 i.width i.width (place_of i at) n len) (λ w. rw (t, u, v, w))
        (λ w. rw (t, u, v, w, t) drawn_rows_lem))))

  -- ---- a glyph

  glyph_outcome : (by : Supplier) (g : GlyphIndex) → outcome (placed_by by (info_in s rec g)) ≡ outcome_with (glyph_reason s rec g len at)
  unfolding info_of metrics_of glyph_reason
  glyph_outcome by g =
      let m = glyph_metrics s rec.metrics g.0 in
      split (leb rec.metrics.count g.0) (λ t. rw t)
      (λ t. split (placeable m (bounds_of rec).ascent) (λ u. rw (t, u) (placed_outcome by (box_in s rec g.0))) (λ u. rw (t, u)))

  -- ---- a code

  none_outcome : refused (refusal 9 0) ≡ outcome_with (code_reason rec.codes code)
  unfolding code_reason
  none_outcome =
      let c = rec.codes in
      let P : Reason → Type 0 = λ q. refused (refusal 9 0) ≡ outcome_with q in
      choose P (ltb 65535 code) (λ t. refl)
      (λ t. choose P (first_outside c code) (λ u. refl) (λ u. choose P (second_outside c code) (λ v. refl) (λ v. refl)))

  code_outcome : outcome (prepared_in s rec mode code) ≡ told_outcome (reason_of s rec mode code len at)
  unfolding reason_of prepared
  code_outcome = by (served_or_9 s rec mode code) where
    by : (served s rec.codes mode code ≡ Served.Refused (refusal 9 0)) ⊎ ((g : ℕ) × (p : Supplier) × ShownBy s rec mode code g p)
        → outcome (prepared_in s rec mode code) ≡ told_outcome (reason_of s rec mode code len at)
    by (inl e) = rw e none_outcome
    by (inr (g, p, shown)) = rw ((served_exactly s rec mode code g p).1 shown) (glyph_outcome p (record { 0 = g }))

  -- what drawing the character comes to is what goes with the reason that `why` gives, and with its refusal
  pub as_drawn : outcome_of rec.bitmaps (draw_char s rec mode code len at) ≡ told_outcome (why_of s rec mode code len at)
  unfolding draw_char char_ready why_of
  as_drawn =
      split (record_fits (length s) rec)
      (λ t. split (ok_place at) (λ u. rw (t, u) code_outcome) (λ u. rw (t, u)))
      (λ t. rw t)

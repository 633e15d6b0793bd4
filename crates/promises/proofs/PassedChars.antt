-- What a character of a text does with a font that passed vetting: it has no refusal but 16.
use Prim.Native.Nat.{ℕ, ◌≤◌}
use mathlib.Core.Path.{◌≡◌, refl, sym, subst}
use mathlib.Core.Bool.{Bool, false, cond}
use mathlib.Core.List.{List}
use native.Mathlib.Omega.{arith}
use lib.Dec.{eqb}
use Rattle.reads.specs.Said.{refusal}
use Rattle.reads.specs.declared.GlyphIndex.{GlyphIndex}
use Rattle.reads.proofs.Tests.{either}
use Rattle.tables.specs.declared.BitmapData.{BitmapData}
use Rattle.tables.specs.declared.Record.{Record}
use Rattle.modes.specs.declared.Mode.{Mode}
use Rattle.lookup.specs.Served.{served}
use Rattle.lookup.specs.declared.Served.{Served}
use Rattle.metrics.specs.Measure.{glyph_metrics}
use Rattle.bitmaps.specs.Cut.{drawn_rows}
use Rattle.bitmaps.specs.Picture.{rows_short, pixel_past}
use Rattle.bitmaps.specs.Draw.{rows_of, shown_at}
use Rattle.bitmaps.specs.declared.Drawn.{Drawn}
use Rattle.bitmaps.proofs.CutRule.{drawn_within}
use Rattle.bitmaps.proofs.RowsInside.{rows_inside, inside_rows}
use Rattle.place.specs.Bounds.{bounds_of}
use Rattle.place.specs.Info.{box_of, info_in}
use Rattle.place.specs.declared.GlyphInfo.{GlyphInfo}
use Rattle.place.specs.declared.Prepared.{Prepared}
use Rattle.glyphs.specs.Glyph.{place_of, glyph_drawn}
use Rattle.vet.specs.Vet.{vetted}
use Rattle.vet.specs.declared.Vetted.{Vetted}
use Rattle.vet.proofs.PassedCodes.{Usable, usable_info, passed_usable}
use Rattle.vet.proofs.Verdict.{passes_when}
use Rattle.text.specs.Walk.{wrapped, place_info, place_served, placed, spot, drawn_from}
use Rattle.text.specs.declared.Layout.{Layout}
use Rattle.text.specs.declared.Pen.{Pen}
use Rattle.text.specs.declared.Placed.{Placed}
use Rattle.promises.proofs.Serving.{supplied}

-- fewer rows lie in the data where more do
fewer_rows : (s : List ℕ) (b : BitmapData) (g width n height : ℕ) → n ≤ height → rows_short s b g width height ≡ false → rows_short s b g width n ≡ false
fewer_rows s b g width n height h e = inside_rows s b g width n (λ r c k l. rows_inside s b g width height e r c (omega arith) l)

module _ (s : List ℕ) (rec : Record) (lay : Layout) (len : ℕ) where
  -- a set bit of a drawn row of this glyph, drawn with the pen there, has a pixel beyond `len` pixels
  abbrev pub past_at : Pen → GlyphInfo → Bool
  past_at pen i =
      let p = place_of i (spot lay pen) in
      pixel_past s rec.bitmaps i.glyph.0 i.width i.width p (drawn_rows len p i.height) len

  -- what is drawn of it where nothing but 16 can refuse
  abbrev pub drawn_or16 : Pen → GlyphInfo → Drawn
  drawn_or16 pen i =
      let p = place_of i (spot lay pen) in
      cond (past_at pen i) (Drawn.Refused (refusal 16 0)) (Drawn.Rows (rows_of i.height (drawn_rows len p i.height)))

  -- what was placed is drawn, or refused 16
  abbrev pub Only16 : Placed → Type 0
  Only16 (Placed.Skip pen) = Unit {0}
  Only16 (Placed.Glyph pen i) = drawn_from s rec lay len pen i ≡ drawn_or16 pen i
  Only16 (Placed.Refused n) = ⊥

  module _ (passed : vetted s ≡ Vetted.Passed rec) where
    usable_drawn : (pen : Pen) (g : GlyphIndex) → Usable s rec g
        → let i = box_of g (glyph_metrics s rec.metrics g.0) (bounds_of rec).ascent in drawn_from s rec lay len pen i ≡ drawn_or16 pen i
    unfolding glyph_drawn shown_at
    usable_drawn pen g u =
        let i = box_of g (glyph_metrics s rec.metrics g.0) (bounds_of rec).ascent in
        let p = place_of i (spot lay pen) in
        let n = drawn_rows len p i.height in
        rw (
          u.has_bitmap,
          ((passes_when s rec).0 passed).1.readable,
          fewer_rows s rec.bitmaps g.0 i.width n i.height (drawn_within len p i.height) u.has_rows,
        ) refl

    glyph_only : (pen : Pen) (g : GlyphIndex) → Usable s rec g → Only16 (place_info rec lay pen (info_in s rec g))
    glyph_only pen g u =
        let i = box_of g (glyph_metrics s rec.metrics g.0) (bounds_of rec).ascent in
        subst (λ (q : Prepared). Only16 (place_info rec lay pen q)) (sym (usable_info s rec g u)) (usable_drawn (wrapped rec lay i pen) g u)

    -- the glyph that shows a character is that of a code, its own or the default one
    served_only : (mode : Mode) (code : ℕ) (pen : Pen) (x : Served) → served s rec.codes mode code ≡ x → Only16 (place_served s rec lay pen x)
    served_only mode code pen (Served.Glyph g by) e = glyph_only pen g (passed_usable s rec passed by.code.0 g (supplied s rec mode code g by e))
    served_only mode code pen (Served.Refused r) e = tt

    -- so is every character
    pub placed_only : (mode : Mode) (code : ℕ) (pen : Pen) → Only16 (placed s rec mode lay code pen)
    unfolding placed
    placed_only mode code pen =
        either Only16 (eqb code 13) tt (either Only16 (eqb code 10) tt (served_only mode code pen (served s rec.codes mode code) refl))

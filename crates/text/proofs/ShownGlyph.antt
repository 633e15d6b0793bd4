-- What was placed, drawn: its answer, and that what drawing leaves in the buffer is the colouring of its pixels, none of a glyph that is refused.
use Prim.Native.Nat.{ℕ}
use mathlib.Core.Path.{◌≡◌, refl, sym, ◌∙◌}
use mathlib.Core.Bool.{Bool, true, false}
use mathlib.Core.List.{List}
use lib.ListN.{length}
use Rattle.reads.specs.Said.{refusal}
use Rattle.tables.specs.declared.BitmapData.{BitmapData}
use Rattle.tables.specs.declared.Record.{Record}
use Rattle.bitmaps.specs.Place.{Place, place_at}
use Rattle.bitmaps.specs.Paint.{painted}
use Rattle.bitmaps.specs.Draw.{shown_leaves, in_glyph}
use Rattle.bitmaps.specs.declared.Drawn.{Drawn}
use Rattle.bitmaps.proofs.Painting.{painted_none}
use Rattle.place.specs.declared.GlyphInfo.{GlyphInfo}
use Rattle.glyphs.specs.Glyph.{place_of, nothing_drawn, glyph_drawn}
use Rattle.glyphs.proofs.Far.{nothing_leaves}
use Rattle.text.specs.Walk.{spot, rows_in, placed_drawn, in_placed}
use Rattle.text.specs.Inked.{inked, Lent}
use Rattle.text.specs.declared.Layout.{Layout}
use Rattle.text.specs.declared.Pen.{Pen}
use Rattle.text.specs.declared.Placed.{Placed}
use Rattle.text.proofs.Passes.{no_ink, all_ink}

shown_by_rows : (s : List ℕ) (b : BitmapData) (g width : ℕ) (at : Place) (colour : ℕ) (r : Drawn) (old : List ℕ)
    → shown_leaves s b g width at colour r old ≡ painted (in_glyph s b g width at (rows_in r)) colour old
shown_by_rows s b g width at colour (Drawn.Rows r) old = refl
shown_by_rows s b g width at colour (Drawn.Refused r) old = nothing_leaves s b g width at colour old

module _ (s : List ℕ) (rec : Record) (lay : Layout) (p : Placed) where
  module _ (len : ℕ) where
    pub drawn_skip : (q : Pen) → p ≡ Placed.Skip q → nothing_drawn ≡ placed_drawn s rec lay len p
    unfolding placed_drawn
    drawn_skip q e = rw e

    pub drawn_glyph : (q : Pen) (i : GlyphInfo) (start : ℕ) (r : Drawn) → p ≡ Placed.Glyph q i → start ≡ (spot lay q).p
        → r ≡ glyph_drawn s rec.bitmaps i len (place_at start lay.stride lay.scale) → r ≡ placed_drawn s rec lay len p
    unfolding placed_drawn
    drawn_glyph q i start r e is d = rw e (rw is at d)

    pub drawn_refused : (n : ℕ) → p ≡ Placed.Refused n → Drawn.Refused (refusal n 0) ≡ placed_drawn s rec lay len p
    unfolding placed_drawn
    drawn_refused n e = rw e

  module _ (colour : ℕ) (old : List ℕ) where
    pub shown_skip : (q : Pen) → p ≡ Placed.Skip q → old ≡ painted (in_placed s rec lay (length old) p) colour old
    shown_skip q e = rw e (sym (painted_none (λ k. false) colour old (λ i h. refl)))

    pub shown_refused : (n : ℕ) → p ≡ Placed.Refused n → old ≡ painted (in_placed s rec lay (length old) p) colour old
    shown_refused n e = rw e (sym (painted_none (λ k. false) colour old (λ i h. refl)))

    pub shown_glyph : (q : Pen) (i : GlyphInfo) (start : ℕ) (after : List ℕ) (r : Drawn) → p ≡ Placed.Glyph q i → start ≡ (spot lay q).p
        → r ≡ glyph_drawn s rec.bitmaps i (length old) (place_at start lay.stride lay.scale)
        → after ≡ shown_leaves s rec.bitmaps i.glyph.0 i.width (place_of i (place_at start lay.stride lay.scale)) colour r old
        → after ≡ painted (in_placed s rec lay (length old) p) colour old
    shown_glyph q i start after r e is d shown =
        shown ∙ shown_by_rows s rec.bitmaps i.glyph.0 i.width (place_of i (place_at start lay.stride lay.scale)) colour r old
        ∙ rw (e, d, is) refl

-- with ink or without
module _ (s : List ℕ) (rec : Record) (lay : Layout) (len : ℕ) (p : Placed) (ink : Bool) (colour : ℕ) (old : List ℕ) where
  pub inked_answer : (r : Drawn) → ink ≡ true → Lent ink len (length old) → r ≡ placed_drawn s rec lay (length old) p → r ≡ placed_drawn s rec lay len p
  inked_answer r e lent is = rw (lent.same e) is

  pub inked_pixels : (after : List ℕ) → ink ≡ true → Lent ink len (length old) → after ≡ painted (in_placed s rec lay (length old) p) colour old
      → after ≡ painted (inked ink (in_placed s rec lay len p)) colour old
  inked_pixels after e lent shown = rw (e, lent.same e) (shown ∙ sym (all_ink (in_placed s rec lay (length old) p) colour old))

  pub dry_pixels : ink ≡ false → old ≡ painted (inked ink (in_placed s rec lay len p)) colour old
  dry_pixels e = rw e (sym (no_ink (in_placed s rec lay len p) colour old))

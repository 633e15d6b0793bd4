-- The tests before a bitmap is drawn, and what follows from a permit: the numbers are within their limits.
use Prim.Native.Nat.{ℕ}
use mathlib.Core.Path.{◌≡◌, refl, sym, ◌∙◌}
use mathlib.Core.Bool.{Bool, true, false, ◌&&◌, cond}
use mathlib.Core.List.{List}
use native.Mathlib.Omega.{arith}
use mir.Syntax.{w8, w16}
use mir.Val.{Fits}
use Rattle.reads.specs.Said.{refusal}
use Rattle.reads.specs.declared.Refusal.{Refusal}
use Rattle.reads.proofs.Tests.{both}
use Rattle.tables.specs.Fits.{guard}
use Rattle.tables.specs.declared.Permit.{Permit}
use Rattle.tables.specs.declared.Record.{Record}
use Rattle.tables.proofs.Guarded.{guarded_answers, guarded_refuses, guarded_within}
use Rattle.bitmaps.specs.Place.{place_at}
use Rattle.bitmaps.specs.Limits.{ok_place, ok_pair}
use Rattle.bitmaps.specs.Picture.{no_bitmap}
use Rattle.bitmaps.specs.Draw.{shown_at, bitmap_ready, draw_bitmap}
use Rattle.bitmaps.specs.declared.Drawn.{Drawn}
use Rattle.outcome.proofs.WithinLimits.{place_limits, pair_limits}

-- the tests

module _ (s : List ℕ) (rec : Record) (g width height start stride scale : ℕ) (place pair : Bool) (permit : Permit)
    (place_is : place ≡ ok_place (place_at start stride scale)) (pair_is : pair ≡ ok_pair width height) (permit-is : permit ≡ guard s rec (place && pair)) where
  abbrev twelve : Permit
  twelve = cond (no_bitmap rec.bitmaps g) (Permit.Refused (refusal 12 0)) Permit.Given

  pub ready_refused : (r : Refusal) → permit ≡ Permit.Refused r → Permit.Refused r ≡ bitmap_ready s rec g width height (place_at start stride scale)
  unfolding bitmap_ready
  ready_refused r e = rw (← place_is, ← pair_is) (sym (guarded_refuses s rec (place && pair) permit permit-is Permit.Refused twelve r e))

  module _ (none : Bool) (given : permit ≡ Permit.Given) (none_is : none ≡ no_bitmap rec.bitmaps g) where
    after : twelve ≡ bitmap_ready s rec g width height (place_at start stride scale)
    unfolding bitmap_ready
    after = rw (← place_is, ← pair_is) (sym (guarded_answers s rec (place && pair) permit permit-is Permit.Refused twelve given))

    pub ready_12 : none ≡ true → Permit.Refused (refusal 12 0) ≡ bitmap_ready s rec g width height (place_at start stride scale)
    ready_12 e = rw (← none_is, e) at after

    pub ready_given : none ≡ false → Permit.Given ≡ bitmap_ready s rec g width height (place_at start stride scale)
    ready_given e = rw (← none_is, e) at after

-- what a call answers after them

module _ (s : List ℕ) (rec : Record) (g width height start stride scale : ℕ) (permit : Permit)
    (permit-is : permit ≡ bitmap_ready s rec g width height (place_at start stride scale)) where
  pub bitmap_refused : (len : ℕ) (r : Refusal) → permit ≡ Permit.Refused r → Drawn.Refused r ≡ draw_bitmap s rec g width height len (place_at start stride scale)
  unfolding draw_bitmap
  bitmap_refused len r e = rw (← permit-is, e) refl

  module _ (given : permit ≡ Permit.Given) where
    pub bitmap_drawn : (len : ℕ) (r : Drawn) → r ≡ shown_at s rec.bitmaps g width height len (place_at start stride scale)
        → r ≡ draw_bitmap s rec g width height len (place_at start stride scale)
    unfolding draw_bitmap
    bitmap_drawn len r is = is ∙ rw (← permit-is, given) refl

    within_limits : (ok_place (place_at start stride scale) ≡ true) × (ok_pair width height ≡ true)
    unfolding bitmap_ready
    within_limits =
        both (ok_place (place_at start stride scale)) (ok_pair width height)
        (guarded_within s rec (ok_place (place_at start stride scale) && ok_pair width height)
        (cond (no_bitmap rec.bitmaps g) (Permit.Refused (refusal 12 0)) Permit.Given) (sym permit-is ∙ given))

    pub width_fits : Fits w16 width
    width_fits = omega (arith, pair_limits width height within_limits.1)

    pub height_fits : Fits w16 height
    height_fits = omega (arith, pair_limits width height within_limits.1)

    pub stride_fits : Fits w16 stride
    stride_fits = omega (arith, place_limits start stride scale within_limits.0)

    pub scale_fits : Fits w8 scale
    scale_fits = omega (arith, place_limits start stride scale within_limits.0)

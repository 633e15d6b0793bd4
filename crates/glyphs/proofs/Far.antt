-- A glyph whose place lies at the buffer's end or beyond draws no row, wherever that place is: so the greatest number can stand for any
-- place beyond it.
use Prim.Native.Nat.{ℕ, ◌*◌, ◌≤◌, min}
use mathlib.Core.Path.{◌≡◌, refl, sym, ◌∙◌}
use mathlib.Core.Bool.{true}
use mathlib.Core.List.{List}
use native.Mathlib.Omega.{arith}
use lib.Dec.{leb}
use lib.ListN.{length}
use borrow.Author.Tests.{leb-true, leb-false}
use Rattle.reads.proofs.Tests.{both, split}
use Rattle.tables.specs.declared.BitmapData.{BitmapData}
use Rattle.modes.specs.declared.Mode.{Mode}
use Rattle.bitmaps.specs.Place.{Place, place_at}
use Rattle.bitmaps.specs.Limits.{ok_pair}
use Rattle.bitmaps.specs.Picture.{glyph_bit}
use Rattle.bitmaps.specs.Draw.{shown_at, shown_leaves}
use Rattle.bitmaps.specs.declared.Drawn.{Drawn}
use Rattle.outcome.proofs.Sizes.{within}
use Rattle.outcome.proofs.WithinLimits.{pair_limits}
use Rattle.bitmaps.proofs.CutRule.{drawn_none}
use Rattle.bitmaps.proofs.NoDots.{none_found, no_dots, dots_behind}
use Rattle.place.specs.declared.GlyphInfo.{GlyphInfo}
use Rattle.glyphs.specs.Glyph.{place_of, ok_info, nothing_drawn}

-- where one place from `len` on is as another, the greatest number can stand for any beyond it
pub capped : {A : Type 0} (f : ℕ → A) (len top p : ℕ) → ((q r : ℕ) → len ≤ q → len ≤ r → f q ≡ f r) → len ≤ top → f (min top p) ≡ f p
capped f len top p same h =
    split (leb p top)
    (λ t. let within : min top p ≡ p = omega (arith, leb-true p top t) in rw within refl)
    (λ t. let beyond = leb-false p top t in same (min top p) p (omega (arith, beyond)) (omega (arith, beyond)))

module _ (s : List ℕ) (b : BitmapData) (g width stride scale : ℕ) where
  far_shown : (height len p q : ℕ) → len ≤ p → len ≤ q → shown_at s b g width height len (place_at p stride scale) ≡ shown_at s b g width height len (place_at q stride scale)
  unfolding shown_at
  far_shown height len p q h k =
      rw (
        drawn_none len (place_at p stride scale) height h,
        drawn_none len (place_at q stride scale) height k,
        none_found (glyph_bit s b g width) (place_at p stride scale) width 0 (λ r c a h l m. omega arith) (λ j. leb len j),
        none_found (glyph_bit s b g width) (place_at q stride scale) width 0 (λ r c a h l m. omega arith) (λ j. leb len j),
      ) refl

  far_leaves : (p colour : ℕ) (r : Drawn) (old : List ℕ) → length old ≤ p → shown_leaves s b g width (place_at p stride scale) colour r old ≡ old
  far_leaves p colour (Drawn.Rows r) old h =
      sym (dots_behind (glyph_bit s b g width) (place_at p stride scale) width r.drawn colour old h)
  far_leaves p colour (Drawn.Refused r) old h = refl

  module _ (top p : ℕ) where
    pub capped_shown : (height len : ℕ) → len ≤ top
        → shown_at s b g width height len (place_at (min top p) stride scale) ≡ shown_at s b g width height len (place_at p stride scale)
    capped_shown height len h = capped (λ q. shown_at s b g width height len (place_at q stride scale)) len top p (far_shown height len) h

    pub capped_leaves : (colour : ℕ) (r : Drawn) (old : List ℕ) → length old ≤ top
        → shown_leaves s b g width (place_at (min top p) stride scale) colour r old ≡ shown_leaves s b g width (place_at p stride scale) colour r old
    capped_leaves colour r old h =
        capped (λ q. shown_leaves s b g width (place_at q stride scale) colour r old) (length old) top p
        (λ p q l k. far_leaves p colour r old l ∙ sym (far_leaves q colour r old k)) h

-- a glyph without a bitmap draws nothing
pub nothing_leaves : (s : List ℕ) (b : BitmapData) (g width : ℕ) (at : Place) (colour : ℕ) (old : List ℕ)
    → old ≡ shown_leaves s b g width at colour nothing_drawn old
nothing_leaves s b g width at colour old = no_dots (glyph_bit s b g width) at width 0 colour old (λ r c a h l m. omega arith)

-- the place of a glyph within the limits is no such place
pub near_place : (mode : Mode) (i : GlyphInfo) (start stride scale : ℕ) → start ≤ 2147483647 → stride ≤ 65535 → scale ≤ 64 → ok_info mode i ≡ true
    → min 18446744073709551615 (place_of i (place_at start stride scale)).p ≡ (place_of i (place_at start stride scale)).p
near_place mode i start stride scale h k l e =
    let (size, pads) = both (ok_pair i.width i.height) (ok_pair i.pad_top i.pad_left) e in
    let (top, left) = pair_limits i.pad_top i.pad_left pads in
    let line = within stride 65535 scale 64 k l in
    omega (arith, line, within (stride * scale) (65535 * 64) i.pad_top 32767 line top, within scale 64 i.pad_left 32767 l left)

-- What it tells that bounds hold, or that a glyph is placeable: which of its numbers are natural, and which in range.
use mathlib.Core.Path.{◌≡◌, refl, subst, sym}
use mathlib.Core.Bool.{true, ◌&&◌}
use lib.Dec.{T}
use lib.IntN.{ℤ, pos, negsuc}
use lib.Signed.{non_neg, le_z}
use Rattle.reads.proofs.Tests.{never, both}
use Rattle.tables.specs.declared.MetricsUnpacked.{MetricsUnpacked}
use Rattle.place.specs.Bounds.{height_of, in_range, bounds_hold}
use Rattle.place.specs.Info.{placeable}

pub held : (m : MetricsUnpacked) → bounds_hold m ≡ true → T (non_neg m.width) × (in_range (height_of m) ≡ true)
unfolding bounds_hold
held m e =
    let (up-to-width, height) = both (non_neg m.ascent && non_neg m.width) (in_range (height_of m)) e in
    let (ascent, width) = both (non_neg m.ascent) (non_neg m.width) up-to-width in
    (subst T (sym width) tt, height)

-- what a glyph's place is made of
pub record Placed (m : MetricsUnpacked) (top : ℤ) : Type 0 where
  pub width : non_neg m.width ≡ true
  pub ascent : non_neg m.ascent ≡ true
  pub left : non_neg m.left ≡ true
  pub height : in_range (height_of m) ≡ true
  pub below : le_z m.ascent top ≡ true

pub placed : (m : MetricsUnpacked) (top : ℤ) → placeable m top ≡ true → Placed m top
unfolding placeable
placed m top e =
    let w = non_neg m.width in
    let a = non_neg m.ascent in
    let l = non_neg m.left in
    let h = in_range (height_of m) in
    let (up-to-height, below) = both (w && a && l && h) (le_z m.ascent top) e in
    let (up-to-left, height) = both (w && a && l) h up-to-height in
    let (up-to-ascent, left) = both (w && a) l up-to-left in
    let (width, ascent) = both w a up-to-ascent in
    record { width = width; ascent = ascent; left = left; height = height; below = below }

-- a number that is natural, as a cast asks it
pub natural : (z : ℤ) → non_neg z ≡ true → T (non_neg z)
natural z e = subst T (sym e) tt

-- what is at least a natural number is one
pub natural_above : (a b : ℤ) → non_neg b ≡ true → le_z b a ≡ true → non_neg a ≡ true
natural_above (pos a) b n e = refl
natural_above (negsuc a) (pos b) n e = never e
natural_above (negsuc a) (negsuc b) n e = never n

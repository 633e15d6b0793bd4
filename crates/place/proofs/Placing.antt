-- The code's tests and casts of signed numbers, each of which it holds by its bits, are the definitions' of whole numbers.
use Prim.Native.Nat.{ℕ, ◌-◌, ◌≤◌, ◌<◌, ◌^◌}
use mathlib.Core.Path.{◌≡◌, sym, ◌∙◌}
use mathlib.Core.Bool.{Bool, true, false, ◌&&◌}
use mathlib.Core.List.{List}
use lib.Dec.{T}
use lib.IntN.{ℤ, nat_abs, ◌+ℤ◌, ◌-ℤ◌}
use lib.Signed.{mag, non_neg, le_z}
use mir.Syntax.{w16, w32}
use mir.Val.{hbits}
use Rattle.reads.specs.Said.{refusal}
use Rattle.reads.specs.declared.GlyphIndex.{GlyphIndex}
use Rattle.reads.specs.declared.Refusal.{Refusal}
use Rattle.reads.proofs.Signed.{back}
use Rattle.tables.specs.declared.EncodingData.{EncodingData}
use Rattle.tables.specs.declared.MetricsData.{MetricsData}
use Rattle.tables.specs.declared.MetricsUnpacked.{MetricsUnpacked}
use Rattle.modes.specs.declared.Mode.{Mode}
use Rattle.lookup.specs.Served.{served}
use Rattle.lookup.specs.declared.Served.{Served}
use Rattle.lookup.specs.declared.Supplier.{Supplier}
use Rattle.metrics.specs.Measure.{metrics_of}
use Rattle.metrics.specs.declared.Measured.{Measured}
use Rattle.place.specs.Bounds.{height_of, in_range, bounds_hold, bounds_sized}
use Rattle.place.specs.Info.{placeable, box_of, boxed, info_of, prepared}
use Rattle.place.specs.declared.CharPrepared.{CharPrepared}
use Rattle.place.specs.declared.GlyphInfo.{GlyphInfo}
use Rattle.place.specs.declared.Prepared.{Prepared}
use Rattle.place.specs.declared.Sized.{Sized}
use Rattle.place.proofs.Held.{held, placed, natural, natural_above}
use Rattle.place.proofs.Whole.{short, long, difference}

-- a number that so many bits hold
abbrev Short : ℤ → Type 0
Short z = mag z < 2 ^ hbits w16

abbrev Long : ℤ → Type 0
Long z = mag z < 2 ^ hbits w32

-- ---- the height

pub height_is : (m : MetricsUnpacked) (sum : ℤ)
    → sum ≡ short m.ascent +ℤ short m.descent → Long sum → Short m.ascent → Short m.descent → long sum ≡ height_of m
height_is m sum is l a d = back w32 sum l ∙ is ∙ rw (back w16 m.ascent a, back w16 m.descent d)

-- ---- the bounds

module _ (m : MetricsUnpacked) (height : ℤ) (height_is : height ≡ height_of m) (small : Long height) where
  same_height : long height ≡ height_of m
  same_height = back w32 height small ∙ height_is

  module _ (ascent width in_range_lem : Bool) (ascent-is : ascent ≡ non_neg (short m.ascent)) (width_is : width ≡ non_neg (short m.width))
      (in-range-is : in_range_lem ≡ in_range (long height)) (a : Short m.ascent) (w : Short m.width) where
    pub bounds_held : ascent && width && in_range_lem ≡ bounds_hold m
    unfolding bounds_hold
    bounds_held = rw (ascent-is, width_is, in-range-is, back w16 m.ascent a, back w16 m.width w, same_height)

    pub placeable_is : (top : ℤ) (left below : Bool) → left ≡ non_neg (short m.left) → below ≡ le_z (short m.ascent) (short top)
        → Short m.left → Short top → width && ascent && left && in_range_lem && below ≡ placeable m top
    unfolding placeable
    placeable_is top left below left_is below-is l t =
        rw (ascent-is, width_is, in-range-is, left_is, below-is, back w16 m.ascent a, back w16 m.width w, back w16 m.left l, back w16 top t, same_height)

module _ (m : MetricsUnpacked) (hold : Bool) (hold-is : hold ≡ bounds_hold m) where
  pub bounds_11 : hold ≡ false → Sized.Refused (refusal 11 0) ≡ bounds_sized m
  unfolding bounds_sized
  bounds_11 e = rw (← hold-is, e)

  module _ (e : hold ≡ true) where
    pub bounds_width : Short m.width → T (non_neg (short m.width))
    bounds_width w = rw (back w16 m.width w) (held m (sym hold-is ∙ e)).0

    module _ (height : ℤ) (height_is : height ≡ height_of m) (small : Long height) where
      pub bounds_height : in_range (long height) ≡ true
      bounds_height = rw (same_height m height height_is small) (held m (sym hold-is ∙ e)).1

      pub bounds_are : (h w : ℕ) → h ≡ nat_abs (long height) → w ≡ nat_abs (short m.width) → Short m.width
          → Sized.Dimensions (record { height = h; width = w }) ≡ bounds_sized m
      unfolding bounds_sized
      bounds_are h w h-is w-is small-w = rw (← hold-is, e, h-is, w-is, same_height m height height_is small, back w16 m.width small-w)

-- ---- a box

module _ (m : MetricsUnpacked) (top : ℤ) (ok : placeable m top ≡ true) where
  pub box_width : Short m.width → T (non_neg (short m.width))
  box_width w = rw (back w16 m.width w) (natural m.width (placed m top ok).width)

  pub box_ascent : Short m.ascent → T (non_neg (short m.ascent))
  box_ascent a = rw (back w16 m.ascent a) (natural m.ascent (placed m top ok).ascent)

  pub box_left : Short m.left → T (non_neg (short m.left))
  box_left l = rw (back w16 m.left l) (natural m.left (placed m top ok).left)

  pub box_top : Short top → T (non_neg (short top))
  box_top t = let is = placed m top ok in rw (back w16 top t) (natural top (natural_above top m.ascent is.ascent is.below))

  pub box_height : (height : ℤ) → height ≡ height_of m → Long height → in_range (long height) ≡ true
  box_height height height_is small = rw (same_height m height height_is small) (placed m top ok).height

  module _ (above ascent : ℕ) (above-is : above ≡ nat_abs (short top)) (ascent-is : ascent ≡ nat_abs (short m.ascent)) (t : Short top) (a : Short m.ascent) where
    pads : (ascent ≤ above) × (above - ascent ≡ nat_abs (top -ℤ m.ascent))
    pads =
        let is = placed m top ok in
        rw (above-is, ascent-is, back w16 top t, back w16 m.ascent a) (difference top m.ascent is.ascent is.below)

    pub box_below : ascent ≤ above
    box_below = pads.0

    pub box_is : (g : GlyphIndex) (height : ℤ) (w h l : ℕ) → height ≡ height_of m → Long height
        → w ≡ nat_abs (short m.width) → Short m.width → h ≡ nat_abs (long height) → l ≡ nat_abs (short m.left) → Short m.left
        → record { glyph = g; width = w; height = h; pad_top = above - ascent; pad_left = l } ≡ box_of g m top
    box_is g height w h l height_is small w-is sw h-is l-is sl =
        rw (w-is, h-is, l-is, back w16 m.width sw, back w16 m.left sl, same_height m height height_is small, pads.1)

pub boxed_asks : (m : MetricsUnpacked) (top : ℤ) (can : Bool) → can ≡ placeable m top → can ≡ true → placeable m top ≡ true
boxed_asks m top can is e = sym is ∙ e

module _ (g : GlyphIndex) (m : MetricsUnpacked) (top : ℤ) (t : Short top) (can : Bool) (can-is : can ≡ placeable m (short top)) where
  pub boxed_11 : can ≡ false → Prepared.Refused (refusal 11 0) ≡ boxed g m top
  boxed_11 e = rw (← (rw (back w16 top t) at can-is), e)

  pub boxed_is : (r : GlyphInfo) → can ≡ true → r ≡ box_of g m (short top) → Prepared.Info r ≡ boxed g m top
  boxed_is r e is = rw (← (rw (back w16 top t) at can-is), e, rw (back w16 top t) at is)

-- ---- a glyph and a character

module _ (s : List ℕ) (metrics : MetricsData) (bounds : MetricsUnpacked) where
  module _ (g : GlyphIndex) (measured : Measured) (measured-is : measured ≡ metrics_of s metrics g.0) where
    pub info_refused : (r : Refusal) → measured ≡ Measured.Refused r → Prepared.Refused r ≡ info_of s metrics bounds g
    unfolding info_of
    info_refused r e = rw (← measured-is, e)

    pub info_boxed : (m : MetricsUnpacked) (r : Prepared) → measured ≡ Measured.Metrics m → Short bounds.ascent
        → r ≡ boxed g m (short bounds.ascent) → r ≡ info_of s metrics bounds g
    unfolding info_of
    info_boxed m r e t is = rw (← measured-is, e) (rw (back w16 bounds.ascent t) at is)

module _ (s : List ℕ) (codes : EncodingData) (mode : Mode) (metrics : MetricsData) (bounds : MetricsUnpacked) (code : ℕ) (found : Served)
    (found-is : found ≡ served s codes mode code) where
  pub char_refused : (r : Refusal) → found ≡ Served.Refused r → CharPrepared.Refused r ≡ prepared s codes mode metrics bounds code
  unfolding prepared
  char_refused r e = rw (← found-is, e)

  module _ (g : GlyphIndex) (by : Supplier) (e : found ≡ Served.Glyph g by) (info : Prepared) (info-is : info ≡ info_of s metrics bounds g) where
    pub char_unplaced : (r : Refusal) → info ≡ Prepared.Refused r → CharPrepared.Refused r ≡ prepared s codes mode metrics bounds code
    unfolding prepared
    char_unplaced r none = rw (← found-is, e, ← info-is, none)

    pub char_placed : (i : GlyphInfo) → info ≡ Prepared.Info i → CharPrepared.Info i by ≡ prepared s codes mode metrics bounds code
    unfolding prepared
    char_placed i there = rw (← found-is, e, ← info-is, there)

-- Where a strip begins: its first column lies before the width, and its pixels near.
use Prim.Native.Nat.{ℕ, ◌*◌, ◌-◌, ◌^◌, ◌≤◌, ◌<◌}
use mathlib.Core.Path.{◌≡◌}
use native.Mathlib.Omega.{arith}
use mir.Syntax.{w64}
use mir.Val.{Fits}
use Rattle.bitmaps.specs.Rows.{row_bytes}
use Rattle.outcome.proofs.Sizes.{within}

module _ (width j count : ℕ) (whole : count ≡ row_bytes width) where
  pub strip_begins : j < count → 8 * j < width
  strip_begins h = omega arith

  pub strips_end : count ≤ j → width ≤ 8 * j
  strips_end h = omega arith

  module _ (h : j < count) where
    -- some of its columns count
    pub some_columns : 1 ≤ width - 8 * j
    some_columns = omega arith

    module _ (scale : ℕ) (w : width < 2 ^ 16) (side : scale < 2 ^ 8) where
      pub strip_near : 8 * j * scale ≤ 1152921504606846976
      strip_near = omega (arith, within (8 * j) 65535 scale 255 (omega arith) (omega arith))

      pub strip_place_fits : Fits w64 (8 * j * scale)
      strip_place_fits = omega (arith, strip_near)

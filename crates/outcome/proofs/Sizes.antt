-- The places of a glyph's pixels are small: no sum of them leaves 64 bits.
use Prim.Native.Nat.{ℕ, ◌+◌, ◌*◌, ◌^◌, ◌≤◌, ◌<◌}
use native.Mathlib.Nat.{mul-le-mul}
use native.Mathlib.Omega.{arith}
use mir.Syntax.{w64}
use mir.Val.{Fits}

pub within : (a top b cap : ℕ) → a ≤ top → b ≤ cap → a * b ≤ top * cap
within a top b cap h k = mul-le-mul h k

-- of a row's first pixel, with rows and strides of 16 bits and scales of 8
pub row_small : (r stride scale : ℕ) → r ≤ 65535 → stride ≤ 65535 → scale ≤ 255 → (r * stride ≤ 65535 * 65535) × (r * stride * scale ≤ 65535 * 65535 * 255)
row_small r stride scale h k l = (within r 65535 stride 65535 h k, within (r * stride) (65535 * 65535) scale 255 (within r 65535 stride 65535 h k) l)

-- row r of n: where its pixels begin
module _ (r n : ℕ) (below : r < n) (rows : n < 2 ^ 16) (stride : ℕ) (line : stride < 2 ^ 16) where
  pub row_line : Fits w64 (r * stride)
  row_line = omega (arith, within r 65535 stride 65535 (omega arith) (omega arith))

  module _ (scale : ℕ) (side : scale < 2 ^ 8) where
    pub row_place_lem : Fits w64 (r * stride * scale)
    row_place_lem = omega (arith, row_small r stride scale (omega arith) (omega arith) (omega arith))

    pub row_place_on : (at : ℕ) → at ≤ 1152921504606846976 → Fits w64 (at + r * stride * scale)
    row_place_on at near = omega (arith, row_small r stride scale (omega arith) (omega arith) (omega arith))

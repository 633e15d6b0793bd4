-- Products of a table's numbers stay small.
use Prim.Native.Nat.{ℕ, ◌+◌, ◌*◌, ◌≤◌, ◌<◌}
use native.Mathlib.Nat.{mul-le-mul}
use native.Mathlib.Omega.{arith}
use mir.Syntax.{w64}
use mir.Val.{Fits}

module _ (per count : ℕ) (per-few : per ≤ 12) (count_fits : count < 4294967296) where
  metrics_few : per * count ≤ 12 * 4294967295
  metrics_few = mul-le-mul {n₁ = per} {m₁ = count} {n₂ = 12} {m₂ = 4294967295} per-few (omega arith)

  pub metrics_small : Fits w64 (per * count)
  metrics_small = omega (arith, metrics_few)

  pub metrics_end_small : (at from : ℕ) → at < 4294967296 → from ≤ 8 → Fits w64 (at + from + per * count)
  metrics_end_small at from h l = omega (arith, metrics_few)

module _ (a b : ℕ) (a-few : a ≤ 65536) (b-few : b ≤ 65536) where
  pub codes_few : a * b ≤ 4294967296
  codes_few = mul-le-mul {n₁ = a} {m₁ = b} {n₂ = 65536} {m₂ = 65536} a-few b-few

  pub codes_small : Fits w64 (a * b)
  codes_small = omega (arith, codes_few)

-- What a glyph's measures are, by the tests that the code makes and the bytes that it reads.
use Prim.Native.Nat.{ℕ, ◌+◌, ◌*◌, ◌≤◌, ◌<◌, ◌^◌}
use mathlib.Core.Path.{◌≡◌, sym, ◌∙◌}
use mathlib.Core.Bool.{Bool, true, false}
use mathlib.Core.List.{List}
use native.Mathlib.Omega.{arith}
use native.Mathlib.Nat.{mul-le-mul}
use lib.Dec.{leb}
use lib.IntN.{ℤ}
use lib.ListN.{length}
use lib.Signed.{mag}
use mir.Syntax.{w16, w64}
use mir.Val.{Fits, to_z, of_z, hbits}
use borrow.Author.Tests.{le-leb, leb-true, lt-leb}
use Rattle.reads.specs.Num.{byte_at, less128}
use Rattle.reads.specs.Said.{refusal}
use Rattle.reads.proofs.Signed.{back}
use Rattle.tables.specs.Metrics.{wide_at, narrow_at, metric_bytes}
use Rattle.tables.specs.declared.MetricsData.{MetricsData}
use Rattle.tables.specs.declared.MetricsUnpacked.{MetricsUnpacked}
use Rattle.metrics.specs.Measure.{measured_at, metrics_of}
use Rattle.metrics.specs.declared.Measured.{Measured}

-- ---- a record that lies in the bytes

abbrev stored : ℤ → ℤ
stored m = to_z w16 (of_z w16 m)

measure_is : (m n : ℤ) → m ≡ n → mag m < 2 ^ hbits w16 → stored m ≡ n
measure_is m n is small = back w16 m small ∙ is

pub narrow_is : (s : List ℕ) (at : ℕ) (m₀ m₁ m₂ m₃ m₄ : ℤ)
    → m₀ ≡ less128 (byte_at s at) → mag m₀ < 2 ^ hbits w16
    → m₁ ≡ less128 (byte_at s (at + 1)) → mag m₁ < 2 ^ hbits w16
    → m₂ ≡ less128 (byte_at s (at + 2)) → mag m₂ < 2 ^ hbits w16
    → m₃ ≡ less128 (byte_at s (at + 3)) → mag m₃ < 2 ^ hbits w16
    → m₄ ≡ less128 (byte_at s (at + 4)) → mag m₄ < 2 ^ hbits w16
    → record { left = stored m₀; right = stored m₁; width = stored m₂; ascent = stored m₃; descent = stored m₄; attributes = 0 } ≡ narrow_at s at
unfolding narrow_at
narrow_is s at m₀ m₁ m₂ m₃ m₄ i₀ l₀ i₁ l₁ i₂ l₂ i₃ l₃ i₄ l₄ =
    rw (measure_is m₀ _ i₀ l₀, measure_is m₁ _ i₁ l₁, measure_is m₂ _ i₂ l₂, measure_is m₃ _ i₃ l₃, measure_is m₄ _ i₄ l₄)

-- ---- a record of either form

module _ (s : List ℕ) (compressed big : Bool) (at : ℕ) (r : MetricsUnpacked) where
  pub as_narrow : compressed ≡ true → r ≡ narrow_at s at → r ≡ measured_at compressed big s at
  as_narrow e is = rw e is

  pub as_wide : compressed ≡ false → r ≡ wide_at big s at → r ≡ measured_at compressed big s at
  as_wide e is = rw e is

-- ---- the record of a glyph

pub count_10 : (s : List ℕ) (m : MetricsData) (g : ℕ) → m.count ≤ g → Measured.Refused (refusal 10 0) ≡ metrics_of s m g
unfolding metrics_of
count_10 s m g h = rw (le-leb _ _ h)

pub offset_fits : (g bytes : ℕ) → bytes ≤ 12 → g < 65536 → Fits w64 (bytes * g)
offset_fits g bytes h l = omega (arith, mul-le-mul {n₁ = bytes} {m₁ = g} {n₂ = 12} {m₂ = 65535} h (omega arith))

pub measured_there : (s : List ℕ) (m : MetricsData) (g bytes : ℕ) (r : MetricsUnpacked) → g < m.count → bytes ≡ metric_bytes m.compressed
    → r ≡ measured_at m.compressed m.big s (m.records + bytes * g) → Measured.Metrics r ≡ metrics_of s m g
unfolding metrics_of
measured_there s m g bytes r h bytes-is is = rw (lt-leb _ _ h, ← bytes-is, ← is)

-- one test finds all five bytes of a compressed record inside

module _ (s : List ℕ) (m : MetricsData) (g : ℕ) where
  module _ (room : Bool) (room-is : room ≡ leb (m.records + 5 * g + 5) (length s)) (e : room ≡ true) where
    pub five_inside : m.records + 5 * g + 5 ≤ length s
    five_inside = leb-true _ _ (sym room-is ∙ e)

    pub start_fits : length s < 2 ^ 64 → Fits w64 (m.records + 5 * g)
    start_fits l = omega (arith, five_inside)

  pub narrow_there : (r : MetricsUnpacked) → m.compressed ≡ true → g < m.count → r ≡ narrow_at s (m.records + 5 * g) → Measured.Metrics r ≡ metrics_of s m g
  unfolding metrics_of
  narrow_there r e h is = rw (lt-leb _ _ h, e, ← is)

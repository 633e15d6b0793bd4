-- Signed numbers that were read and stand in a struct's fields, and the two forms of a metrics record, of which the place was cut at the end of the bytes.
use Prim.Native.Nat.{ℕ, ◌+◌, ◌<◌, ◌^◌, min}
use mathlib.Core.Path.{◌≡◌, ◌∙◌}
use mathlib.Core.Bool.{Bool}
use mathlib.Core.List.{List}
use native.Mathlib.Nat.{add-zero}
use native.Mathlib.Omega.{arith}
use lib.IntN.{ℤ}
use lib.ListN.{length}
use lib.Signed.{mag}
use mir.Syntax.{Width, w16}
use mir.Val.{to_z, of_z, hbits}
use Rattle.reads.specs.Num.{byte_at, u16_at, i16_at, less128}
use Rattle.reads.proofs.Signed.{back}
use Rattle.reads.proofs.Past.{byte_reach, number_reach}
use Rattle.tables.specs.Metrics.{wide_at, narrow_at}
use Rattle.tables.specs.declared.MetricsUnpacked.{MetricsUnpacked}

-- what a signed field holds
abbrev pub stored : Width → ℤ → ℤ
stored w m = to_z w (of_z w m)

-- a signed number fits its type
abbrev pub Small : Width → ℤ → Type 0
Small w m = mag m < 2 ^ hbits w

pub kept : (w : Width) (m z : ℤ) → m ≡ z → Small w m → stored w m ≡ z
kept w m z is small = back w m small ∙ is

module _ (s : List ℕ) (start offset at : ℕ) (reached : at ≡ min (start + offset) (length s)) where
  abbrev from : ℕ
  from = start + offset

  narrow_one : (k b : ℕ) (m : ℤ) → b ≡ byte_at s (at + k) → m ≡ less128 b → Small w16 m → stored w16 m ≡ less128 (byte_at s (from + k))
  narrow_one k b m read is small = kept w16 m (less128 b) is small ∙ rw (read, reached, byte_reach s from k)

  pub narrow : (b₀ b₁ b₂ b₃ b₄ : ℕ) (m₀ m₁ m₂ m₃ m₄ : ℤ) (to : MetricsUnpacked)
      → b₀ ≡ byte_at s (at + 0) → m₀ ≡ less128 b₀ → Small w16 m₀
      → b₁ ≡ byte_at s (at + 1) → m₁ ≡ less128 b₁ → Small w16 m₁
      → b₂ ≡ byte_at s (at + 2) → m₂ ≡ less128 b₂ → Small w16 m₂
      → b₃ ≡ byte_at s (at + 3) → m₃ ≡ less128 b₃ → Small w16 m₃
      → b₄ ≡ byte_at s (at + 4) → m₄ ≡ less128 b₄ → Small w16 m₄
      → to ≡ record { left = stored w16 m₀; right = stored w16 m₁; width = stored w16 m₂; ascent = stored w16 m₃; descent = stored w16 m₄; attributes = 0 }
      → to ≡ narrow_at s from
  unfolding narrow_at
  narrow b₀ b₁ b₂ b₃ b₄ m₀ m₁ m₂ m₃ m₄ to r₀ i₀ l₀ r₁ i₁ l₁ r₂ i₂ l₂ r₃ i₃ l₃ r₄ i₄ l₄ is =
      is
      ∙ rw (
        narrow_one 0 b₀ m₀ r₀ i₀ l₀,
        narrow_one 1 b₁ m₁ r₁ i₁ l₁,
        narrow_one 2 b₂ m₂ r₂ i₂ l₂,
        narrow_one 3 b₃ m₃ r₃ i₃ l₃,
        narrow_one 4 b₄ m₄ r₄ i₄ l₄,
        add-zero from,
      )

  module _ (big : Bool) where
    wide_one : (k : ℕ) (m : ℤ) → m ≡ i16_at big s (at + k) → Small w16 m → stored w16 m ≡ i16_at big s (from + k)
    wide_one k m is small = kept w16 m (i16_at big s (at + k)) is small ∙ rw (reached, number_reach s from k big 2 (omega arith))

    wide_last : (k a : ℕ) → a ≡ u16_at big s (at + k) → a ≡ u16_at big s (from + k)
    wide_last k a is = is ∙ rw (reached, number_reach s from k big 2 (omega arith))

    pub wide : (m₀ m₁ m₂ m₃ m₄ : ℤ) (a : ℕ) (to : MetricsUnpacked)
        → m₀ ≡ i16_at big s (at + 0) → Small w16 m₀
        → m₁ ≡ i16_at big s (at + 2) → Small w16 m₁
        → m₂ ≡ i16_at big s (at + 4) → Small w16 m₂
        → m₃ ≡ i16_at big s (at + 6) → Small w16 m₃
        → m₄ ≡ i16_at big s (at + 8) → Small w16 m₄
        → a ≡ u16_at big s (at + 10)
        → to ≡ record { left = stored w16 m₀; right = stored w16 m₁; width = stored w16 m₂; ascent = stored w16 m₃; descent = stored w16 m₄; attributes = a }
        → to ≡ wide_at big s from
    unfolding wide_at
    wide m₀ m₁ m₂ m₃ m₄ a to i₀ l₀ i₁ l₁ i₂ l₂ i₃ l₃ i₄ l₄ a-is is =
        is
        ∙ rw (
          wide_one 0 m₀ i₀ l₀,
          wide_one 2 m₁ i₁ l₁,
          wide_one 4 m₂ i₂ l₂,
          wide_one 6 m₃ i₃ l₃,
          wide_one 8 m₄ i₄ l₄,
          wide_last 10 a a-is,
          add-zero from,
        )

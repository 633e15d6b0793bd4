-- The laws of signed 16-bit numbers in whole numbers: sums fit 32 bits, and the tests against 0.
use mathlib.Core.Path.{◌≡◌, refl, ◌∙◌}
use mathlib.Core.Bool.{true}
use Prim.Native.Nat.{ℕ, zero, suc, ◌+◌, ◌-◌, ◌≤◌}
use native.Mathlib.Omega.{arith}
use lib.Dec.{T, ltb}
use lib.IntN.{ℤ, pos, negsuc, sub_ℕ, nat_abs, ◌+ℤ◌, ◌-ℤ◌}
use lib.Signed.{mag, non_neg, le_z}
use mir.Syntax.{w16, w32}
use mir.Val.{SFits, to_z, of_z}
use mir.Facts.{to_z-of_z, sfits_widen}
use borrow.Author.Tests.{le-leb, leb-true, le-ltb}
use Rattle.reads.proofs.Signed.{mag_cond}
use Rattle.reads.proofs.Tests.{never, both}
use Rattle.place.specs.Bounds.{in_range}

-- a number as 16 bits hold it, and as 32
abbrev pub short : ℤ → ℤ
short z = to_z w16 (of_z w16 z)

abbrev pub long : ℤ → ℤ
long z = to_z w32 (of_z w32 z)

mag_sub : (a b h : ℕ) → a ≤ h → b ≤ h → mag (sub_ℕ a b) ≤ h
mag_sub a b h p q = mag_cond (ltb a b) (negsuc (b - suc a)) (pos (a - b)) h (omega arith) (omega arith)

mag_add : (x y : ℤ) (h : ℕ) → mag x ≤ h → mag y ≤ h → mag (x +ℤ y) ≤ h + h + 1
mag_add (pos a) (pos b) h p q = omega arith
mag_add (pos a) (negsuc b) h p q = mag_sub a (suc b) (h + h + 1) (omega arith) (omega arith)
mag_add (negsuc a) (pos b) h p q = mag_sub b (suc a) (h + h + 1) (omega arith) (omega arith)
mag_add (negsuc a) (negsuc b) h p q = omega arith

pub sum_fits : (a b : ℤ) → SFits w16 a → SFits w16 b → SFits w32 (a +ℤ b)
sum_fits a b fa fb = record { sfits = omega (arith, mag_add a b 32768 (omega arith) (omega arith)) }

pub widens : (z : ℤ) → SFits w16 z → SFits w32 (short z)
widens z f = rw (to_z-of_z {w = w16} {z = z} f) (sfits_widen tt f)

widened : (z : ℤ) → SFits w16 z → long (short z) ≡ z
widened z f = to_z-of_z (widens z f) ∙ to_z-of_z f

module _ (a b : ℤ) (fa : SFits w16 a) (fb : SFits w16 b) where
  pub sum_widens : SFits w32 (long (short a) +ℤ long (short b))
  sum_widens = rw (widened a fa, widened b fb) (sum_fits a b fa fb)

  pub sum_is : long (long (short a) +ℤ long (short b)) ≡ a +ℤ b
  sum_is = to_z-of_z sum_widens ∙ rw (widened a fa, widened b fb)

pub from_zero : (z : ℤ) → le_z (pos 0) z ≡ non_neg z
from_zero (pos n) = le-leb 0 n (omega arith)
from_zero (negsuc n) = refl

-- a number in range is a natural one of 15 bits
pub in_range_small : (z : ℤ) → in_range z ≡ true → T (non_neg z) × (nat_abs z ≤ 32767)
in_range_small (pos n) e = let (a, b) = both (non_neg (pos n)) (le_z (pos n) (pos 32767)) e in (tt, leb-true n 32767 b)
in_range_small (negsuc n) e = never e

-- the difference of two natural numbers, where it is one
pub difference : (a b : ℤ) → non_neg b ≡ true → le_z b a ≡ true → (nat_abs b ≤ nat_abs a) × (nat_abs a - nat_abs b ≡ nat_abs (a -ℤ b))
difference (pos a) (pos zero) n e = (omega arith, omega arith)
difference (pos a) (pos (suc b)) n e = (leb-true (suc b) a e, rw (le-ltb a (suc b) (leb-true (suc b) a e)) refl)
difference (pos a) (negsuc b) n e = never n
difference (negsuc a) (pos b) n e = never e
difference (negsuc a) (negsuc b) n e = never n

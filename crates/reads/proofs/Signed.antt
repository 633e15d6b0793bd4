-- The laws of signed readings, over the width, and of the compressed metric byte.
use mathlib.Core.Path.{◌≡◌, refl, subst, sym, ap, ◌∙◌}
use mathlib.Core.Bool.{Bool, true, false, cond}
use Prim.Native.Nat.{ℕ, zero, suc, ◌-◌, ◌*◌, ◌^◌, ◌≤◌, ◌<◌}
use native.Mathlib.Omega.{arith}
use lib.Dec.{ltb}
use lib.IntN.{ℤ, pos, negsuc, nat_abs, ◌-ℤ◌}
use lib.Signed.{mag, nat_abs-le}
use mir.Syntax.{Width, w16}
use mir.Val.{SFits, to_z, of_z, bits, hbits, sel}
use mir.ValLaws.{pow-bits}
use mir.Facts.{to_z_pos, to_z-of_z, sfits_to_z}
use borrow.Author.Tests.{le-ltb, ltb-true, ltb-false}
use Rattle.reads.specs.Num.{signed, less128}
use Rattle.reads.proofs.Tests.{split}

-- a signed number survives the way through its bits
pub back : (w : Width) (z : ℤ) → mag z < 2 ^ hbits w → to_z w (of_z w z) ≡ z
back w z h = to_z-of_z {w = w} {z = z} (record { sfits = h })

-- `cond` and the machine's own choice are the same
same_choice : (t : Bool) (x y : ℤ) → sel t x y ≡ cond t x y
same_choice true x y = refl
same_choice false x y = refl

-- the machine's reading of a number of `b` bytes as signed is the definition's
signed_is : (w : Width) (b n : ℕ) → bits w ≡ 8 * b → hbits w ≡ 8 * b - 1 → to_z w n ≡ signed b n
unfolding signed
signed_is w b n whole half = rw (← half, ← whole) (same_choice (ltb n (2 ^ hbits w)) (pos n) (negsuc (2 ^ bits w - suc n)))

minus_one_less : (m : ℕ) → negsuc 0 -ℤ pos m ≡ negsuc m
minus_one_less zero = refl
minus_one_less (suc k) = ap negsuc (omega arith)

-- from half on, -1 less what is missing to the largest number is the signed reading
from_half : (w : Width) (n : ℕ) → 2 ^ hbits w ≤ n → n < 2 ^ bits w → negsuc 0 -ℤ to_z w (2 ^ bits w - 1 - n) ≡ to_z w n
from_half w n h l =
    ap (λ (z : ℤ). negsuc 0 -ℤ z) (to_z_pos w {n = 2 ^ bits w - 1 - n} (omega (arith, pow-bits w)))
    ∙ minus_one_less (2 ^ bits w - 1 - n)
    ∙ rw (le-ltb n (2 ^ hbits w) h) (ap negsuc (omega arith))

module _ (w : Width) (n : ℕ) (h : 2 ^ hbits w ≤ n) (l : n < 2 ^ bits w) where
  pub half_fits : SFits w (negsuc 0 -ℤ to_z w (2 ^ bits w - 1 - n))
  half_fits = subst (SFits w) (sym (from_half w n h l)) (sfits_to_z (record { fits = l }))

  half_is : to_z w (of_z w (negsuc 0 -ℤ to_z w (2 ^ bits w - 1 - n))) ≡ to_z w n
  half_is = to_z-of_z half_fits ∙ from_half w n h l

-- a number that is m, read as signed
module _ (w : Width) (b n m : ℕ) (is : n ≡ m) (whole : bits w ≡ 8 * b) (half : hbits w ≡ 8 * b - 1) where
  pub reads_below : to_z w n ≡ signed b m
  reads_below = signed_is w b n whole half ∙ ap (signed b) is

  pub reads_above : 2 ^ hbits w ≤ n → n < 2 ^ bits w → to_z w (of_z w (negsuc 0 -ℤ to_z w (2 ^ bits w - 1 - n))) ≡ signed b m
  reads_above h l = half_is w n h l ∙ reads_below

-- the size of a choice
pub mag_cond : (t : Bool) (x y : ℤ) (h : ℕ) → mag x ≤ h → mag y ≤ h → mag (cond t x y) ≤ h
mag_cond true x y h p q = p
mag_cond false x y h p q = q

metric_fits : (b : ℕ) → b < 256 → SFits w16 (less128 b)
unfolding less128
metric_fits b h = record { sfits = omega (arith, mag_cond (ltb b 128) (negsuc (128 - suc b)) (pos (b - 128)) 127 (omega arith) (omega arith)) }

metric_is : (b : ℕ) → b < 256 → to_z w16 b -ℤ pos 128 ≡ less128 b
unfolding less128
metric_is b h = ap (λ (z : ℤ). z -ℤ pos 128) (to_z_pos w16 {n = b} (omega arith))

pub shifted_fits : (b : ℕ) → b < 256 → SFits w16 (to_z w16 b -ℤ pos 128)
shifted_fits b h = rw (metric_is b h) (metric_fits b h)

pub shifted_is : (b : ℕ) → b < 256 → to_z w16 (of_z w16 (to_z w16 b -ℤ pos 128)) ≡ less128 b
shifted_is b h = rw (metric_is b h) (to_z-of_z (metric_fits b h))

-- neither form of a metric is further from 0 than 16 bits hold
pub metric_small : (b : ℕ) → b < 256 → nat_abs (less128 b) < 65536
metric_small b h = omega (arith, nat_abs-le (less128 b) (metric_fits b h).sfits)

pub signed_small : (n : ℕ) → nat_abs (signed 2 n) < 65536
unfolding signed
signed_small n =
    split (ltb n 32768)
    (λ t. rw t (omega (arith, ltb-true n 32768 t)))
    (λ t. rw t (omega (arith, ltb-false n 32768 t)))

-- The laws of digits to the base 256, over the number of digits; a byte is a number of one digit.
use mathlib.Core.Path.{◌≡◌, refl, sym, ◌∙◌}
use mathlib.Core.List.{List}
use mathlib.Core.Bool.{Bool, true, false}
use Prim.Native.Nat.{ℕ, ◌+◌, ◌-◌, ◌*◌, ◌^◌, ◌≤◌, ◌<◌}
use native.Mathlib.Nat.{add-zero, zero-add, pow-le-pow_right, pow-suc, zero-lt-suc}
use native.Mathlib.Numerals.{add-one}
use native.Mathlib.Omega.{arith}
use lib.ListN.{length, get_or-eq_default}
use lib.Dec.{leb}
use mir.Syntax.{w32}
use mir.Val.{Fits}
use borrow.Author.Tests.{leb-false}
use Rattle.reads.specs.Num.{byte_at, digit_at, digits, num_at}
use Rattle.reads.proofs.Tests.{split}

module _ (big : Bool) (w : ℕ) (s : List ℕ) (at k r : ℕ) where
  pub digit_big : big ≡ true → r ≡ byte_at s (at + k) → r ≡ digit_at big w s at k
  digit_big t is = rw t is

  pub digit_little : big ≡ false → r ≡ byte_at s (at + (w - 1 - k)) → r ≡ digit_at big w s at k
  digit_little t is = rw t is

pub digits_more : (d : ℕ → ℕ) (i : ℕ) → digits d (i + 1) ≡ digits d i * 256 + d i
unfolding digits
digits_more d i = rw add-one

pub bound_more : (i n b : ℕ) → n < 256 ^ i → b < 256 → n * 256 + b < 256 ^ (i + 1)
bound_more i n b hn hb = rw (add-one, pow-suc 256 i) (omega arith)

-- fewer than four digits are below 256 ^ 3
pub three_digits : (i w : ℕ) → i < w → w ≤ 4 → 256 ^ i ≤ 16777216
three_digits i w h k = pow-le-pow_right {n = 256} (zero-lt-suc 255) {i = i} {j = 3} (omega arith)

-- n is the number of the first i of w digits
pub record Summed (big : Bool) (w : ℕ) (s : List ℕ) (at n i : ℕ) : Type 0 where
  pub within : i ≤ w
  pub is : n ≡ digits (digit_at big w s at) i
  pub small : n < 256 ^ i

module _ (big : Bool) (w : ℕ) (s : List ℕ) (at : ℕ) where
  pub no_digit : Summed big w s at 0 0
  unfolding digits
  no_digit = record { within = omega arith; is = refl; small = omega arith }

  module _ (n i : ℕ) (now : Summed big w s at n i) where
    module _ (h : i < w) (k : w ≤ 4) where
      pub shift_fits : Fits w32 (n * 256)
      shift_fits = omega (arith, now.small, three_digits i w h k)

      pub digit_fits : (b : ℕ) → b < 256 → Fits w32 (n * 256 + b)
      digit_fits b l = omega (arith, now.small, three_digits i w h k)

    pub next_digit : (b : ℕ) → i < w → b ≡ digit_at big w s at i → b < 256 → Summed big w s at (n * 256 + b) (i + 1)
    next_digit b h e l =
        record { within = omega arith; is = rw (digits_more (digit_at big w s at) i, ← e, ← now.is); small = bound_more i n b now.small l }

    module _ (done : w ≤ i) where
      last : i ≡ w
      last = omega (arith, now.within)

      pub all_digits : n ≡ digits (digit_at big w s at) w
      all_digits = rw last at now.is

      pub all_small : n < 256 ^ w
      all_small = rw last at now.small

-- ---- the number of some digits, where they lie in the bytes

module _ (big : Bool) (w : ℕ) (s : List ℕ) (at : ℕ) (lies : Bool) (lies-is : lies ≡ leb (at + w) (length s)) where
  pub number_inside : (r : ℕ) → lies ≡ true → r ≡ digits (digit_at big w s at) w → r ≡ num_at big w s at
  unfolding num_at
  number_inside r t is = rw (← lies-is, t) is

  pub number_outside : lies ≡ false → 0 ≡ num_at big w s at
  unfolding num_at
  number_outside t = rw (← lies-is, t)

pub none_below : (w : ℕ) → 0 < 256 ^ w
none_below w = pow-le-pow_right {n = 256} (zero-lt-suc 255) {i = 0} {j = w} (omega arith)

pub one_digit : (s : List ℕ) (at : ℕ) → num_at false 1 s at ≡ byte_at s at
unfolding num_at digits
one_digit s at =
    split (leb (at + 1) (length s)) (λ t. rw (t, add-zero at) (zero-add (byte_at s at)))
    (λ t. rw t (sym (get_or-eq_default s 0 (omega (arith, leb-false (at + 1) (length s) t)))))

pub byte_is : (s : List ℕ) (at r : ℕ) → r ≡ num_at false 1 s at → r ≡ byte_at s at
byte_is s at r is = is ∙ one_digit s at

-- Numbers in a font's bytes: of any width, in either byte order, and their signed readings.
-- From document 01, "Reading the tables", and the public description's byte orders.
use Rattle.std.specs.Prelude.{ℕ, zero, suc, ◌+◌, ◌-◌, ◌*◌, ◌^◌, ◌<◌, List, Bool, true, false, cond, length, get_or, ltb, leb, ℤ, pos, negsuc}
use Rattle.std.proofs.Math.IntN.{sub_ℕ}

-- the byte at a place, 0 past the end
abbrev pub byte_at : List ℕ → ℕ → ℕ
byte_at s at = get_or s at 0

-- numbers that are bytes, as those of a slice are
pub record Octets (s : List ℕ) : Type 0 where
  pub below : (i : ℕ) → byte_at s i < 256

-- which of `w` bytes, or bits, is the k-th most significant, from 0: with the most significant first the k-th, else the k-th from the end
abbrev pub digit_index : Bool → ℕ → ℕ → ℕ
digit_index true w k = k
digit_index false w k = w - 1 - k

-- the k-th most significant, from 0, of the `w` bytes at `at`
abbrev pub digit_at : Bool → ℕ → List ℕ → ℕ → ℕ → ℕ
digit_at big w s at k = byte_at s (at + digit_index big w k)

-- the number whose digits to the base 256 are `d 0`, .., `d (i - 1)`, the most significant first
unfoldable pub digits : (ℕ → ℕ) → ℕ → ℕ
digits d zero = 0
digits d (suc i) = digits d i * 256 + d i

-- the number of the `w` bytes at `at`, big-endian or not; 0 where they do not all lie in the bytes
unfoldable pub num_at : Bool → ℕ → List ℕ → ℕ → ℕ
num_at big w s at = cond (leb (at + w) (length s)) (digits (digit_at big w s at) w) 0

abbrev pub u16_at : Bool → List ℕ → ℕ → ℕ
u16_at big s at = num_at big 2 s at

abbrev pub u32_at : Bool → List ℕ → ℕ → ℕ
u32_at big s at = num_at big 4 s at

-- a number of `w` bytes read as signed: from half on it counts from below 0
unfoldable pub signed : ℕ → ℕ → ℤ
signed w n = cond (ltb n (2 ^ (8 * w - 1))) (pos n) (negsuc (2 ^ (8 * w) - suc n))

abbrev pub i16_at : Bool → List ℕ → ℕ → ℤ
i16_at big s at = signed 2 (u16_at big s at)

abbrev pub i32_at : Bool → List ℕ → ℕ → ℤ
i32_at big s at = signed 4 (u32_at big s at)

-- "byte b means b - 128"
unfoldable pub less128 : ℕ → ℤ
less128 b = sub_ℕ b 128

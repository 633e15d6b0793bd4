-- A bit of a unit's number is a bit of one of its bytes: one law over the unit, the byte order and the bit order.
use Prim.Native.Nat.{ℕ, zero, suc, ◌+◌, ◌-◌, ◌*◌, ◌/◌, ◌%◌, ◌^◌, ◌≤◌, ◌<◌}
use mathlib.Core.Path.{◌≡◌, refl, sym, ap, ◌∙◌}
use mathlib.Core.Bool.{Bool, true, false}
use mathlib.Core.List.{List}
use native.Mathlib.Nat.{div-div-eq-div-mul, mod_def, div-add-mod, mod-lt, mul_assoc, mul-add-div_right, one-le-pow, pow-succ'}
use native.Mathlib.Omega.{arith}
use lib.Dec.{eqb}
use borrow.Author.Tests.{eqb-true}
use Rattle.reads.specs.Num.{byte_at, digit_index, digit_at, digits, Octets}
use Rattle.reads.proofs.Tests.{either}
use Rattle.bitmaps.specs.Paint.{some}
use Rattle.bitmaps.specs.Units.{unit_bytes, unit_start, bit_index, bit_at, byte_of}
use Rattle.bitmaps.specs.Rows.{column}
use Rattle.bitmaps.specs.declared.Order.{Order}
use Rattle.bitmaps.proofs.Searching.{below_test}

-- ---- a bit of a number, by its digits to the base 256

byte_power : (t : ℕ) → t < 8 → 2 ^ (7 - t) * 2 * 2 ^ t ≡ 256
unfolding some
byte_power t h = eqb-true (2 ^ (7 - t) * 2 * 2 ^ t) 256 (below_test 8 (λ t. eqb (2 ^ (7 - t) * 2 * 2 ^ t) 256) refl t h)

low_bit : (D b t : ℕ) → t < 8 → (D * 256 + b) / 2 ^ t % 2 ≡ b / 2 ^ t % 2
low_bit D b t h =
    let Q = 2 ^ (7 - t) in
    let P = 2 ^ t in
    let e : D * 256 ≡ D * (Q * 2) * P = ap (λ (n : ℕ). D * n) (sym (byte_power t h)) ∙ sym (mul_assoc D (Q * 2) P) in
    let f : (D * 256 + b) / P ≡ D * (Q * 2) + b / P = rw e (mul-add-div_right {m = P} (one-le-pow t 2 (omega arith)) (D * (Q * 2)) b) in
    rw f (omega (arith, sym (mul_assoc D Q 2)))

power_8 : (x : ℕ) → 2 ^ (8 + x) ≡ 256 * 2 ^ x
power_8 x =
    let e : 8 + x ≡ suc (suc (suc (suc (suc (suc (suc (suc x))))))) = omega arith in
    rw e (simp (pow-succ' 2) (omega arith))

-- bit 8k + t is bit t of the digit that has k digits behind it
digit_bit : (d : ℕ → ℕ) → ((i : ℕ) → d i < 256) → (w k t : ℕ) → k < w → t < 8 → digits d w / 2 ^ (8 * k + t) % 2 ≡ d (w - 1 - k) / 2 ^ t % 2
unfolding digits
digit_bit d h zero k t l m = absurd (omega arith)
digit_bit d h (suc w) zero t l m =
    let e : 8 * 0 + t ≡ t = omega arith in
    let f : suc w - 1 - 0 ≡ w = omega arith in
    rw (e, f) (low_bit (digits d w) (d w) t m)
digit_bit d h (suc w) (suc k) t l m =
    let e : 8 * suc k + t ≡ 8 + (8 * k + t) = omega arith in
    let f : suc w - 1 - suc k ≡ w - 1 - k = omega arith in
    let b = h w in
    let g : (digits d w * 256 + d w) / 256 ≡ digits d w = omega arith in
    rw (e, f, power_8, ← (div-div-eq-div-mul (digits d w * 256 + d w) 256 (2 ^ (8 * k + t))), g) (digit_bit d h w k t (omega arith) m)

-- ---- a column's unit, byte and bit

pub unit_some : (code : ℕ) → 1 ≤ unit_bytes code
unit_some code = either (λ (n : ℕ). 1 ≤ n) (eqb code 0) (omega arith) (either (λ (n : ℕ). 1 ≤ n) (eqb code 1) (omega arith) (omega arith))

-- counted from either end, one of n things is one of n things
pub index_in : (first : Bool) (n k : ℕ) → k < n → digit_index first n k < n
index_in true n k h = h
index_in false n k h = omega arith

module _ (s : List ℕ) (o : Order) (row c : ℕ) where
  abbrev w : ℕ
  w = unit_bytes o.unit

  bit_in : bit_index o c < 8 * w
  bit_in = index_in o.top (8 * w) (c % (8 * w)) (mod-lt c (omega (arith, unit_some o.unit)))

  -- the pixel at a column is a bit of the byte that holds it
  pub bit_held : Octets s → bit_at s o row c ≡ column (byte_at s (row + byte_of o c)) (bit_index o c % 8)
  unfolding bit_at byte_of column
  bit_held bytes =
      let m = bit_index o c in
      let at = row + unit_start o c in
      let k = w - 1 - m / 8 in
      let inside = bit_in in
      let place : 8 * w - 1 - m ≡ 8 * k + (7 - m % 8) = omega arith in
      let back : w - 1 - k ≡ m / 8 = omega arith in
      let there : row + unit_start o c + digit_index o.big w (m / 8) ≡ row + (unit_start o c + digit_index o.big w (m / 8)) = omega arith in
      let found = digit_bit (digit_at o.big w s at) (λ i. bytes.below (at + digit_index o.big w i)) w k (7 - m % 8) (omega arith) (omega arith) in
      let number = digits (digit_at o.big w s at) w in
      let same : number / 2 ^ (8 * w - 1 - m) % 2 ≡ byte_at s (row + byte_of o c) / 2 ^ (7 - m % 8) % 2 = rw place (rw (back, there) at found) in
      ap (λ (x : ℕ). eqb x 1) same

-- ---- eight columns

module _ (j k w : ℕ) (h : k < 8) where
  eight_byte : (8 * j + k) / 8 ≡ j
  eight_byte = omega arith

  unit_of_eight : (8 * j + k) / (8 * w) ≡ j / w
  unit_of_eight = sym (div-div-eq-div-mul (8 * j + k) 8 w) ∙ rw eight_byte

  in_unit : (8 * j + k) % (8 * w) ≡ 8 * (j % w) + k
  in_unit = mod_def (8 * j + k) (8 * w) ∙ rw unit_of_eight (omega (arith, mul_assoc 8 w (j / w), div-add-mod j w))

  module _ (some : 1 ≤ w) where
    index_byte : (first : Bool) → digit_index first (8 * w) (8 * (j % w) + k) / 8 ≡ digit_index first w (j % w)
    index_byte true = omega arith
    index_byte false = let l = mod-lt j some in omega (arith, l)

    index_bit : (first : Bool) → digit_index first (8 * w) (8 * (j % w) + k) % 8 ≡ digit_index first 8 k
    index_bit true = omega arith
    index_bit false = let l = mod-lt j some in omega (arith, l)

module _ (o : Order) (j k : ℕ) (h : k < 8) where
  -- they stand in one byte, in the order of the bits
  pub eight_held : byte_of o (8 * j + k) ≡ j / unit_bytes o.unit * unit_bytes o.unit + digit_index o.big (unit_bytes o.unit) (digit_index o.top (unit_bytes o.unit) (j % unit_bytes o.unit))
  unfolding byte_of
  eight_held =
      let w = unit_bytes o.unit in
      rw (unit_of_eight j k w h, in_unit j k w h, index_byte j k w h (unit_some o.unit) o.top) refl

  pub eight_bit : bit_index o (8 * j + k) % 8 ≡ digit_index o.top 8 k
  eight_bit = rw (in_unit j k (unit_bytes o.unit) h) (index_bit j k (unit_bytes o.unit) h (unit_some o.unit) o.top)

pub same_held : (o : Order) (j k : ℕ) → k < 8 → byte_of o (8 * j + k) ≡ byte_of o (8 * j)
same_held o j k h =
    let e : 8 * j ≡ 8 * j + 0 = omega arith in
    eight_held o j k h ∙ rw e (sym (eight_held o j 0 (omega arith)))

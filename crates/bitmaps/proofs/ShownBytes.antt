-- Eight columns as a byte: their bits are its bits, and it is the byte that holds them, or that byte with its bits in the other order.
use Prim.Native.Nat.{ℕ, zero, suc, ◌+◌, ◌-◌, ◌*◌, ◌/◌, ◌%◌, ◌^◌, ◌<◌}
use mathlib.Core.Path.{◌≡◌, refl, sym, ap, ap₂, ◌∙◌}
use mathlib.Core.Bool.{Bool, true, false, cond}
use mathlib.Core.List.{List, []}
use mathlib.Core.Logic.{⊎_elim}
use native.Mathlib.Nat.{eq-or-lt_of_le, le_of_suc-le-suc, not-suc-le-zero, div-div-eq-div-mul, pow-succ', zero-div}
use native.Mathlib.Omega.{arith}
use lib.Dec.{eqb}
use borrow.Author.Tests.{eqb-true}
use Rattle.reads.specs.Num.{byte_at, digit_index, digit_at, digits, Octets}
use Rattle.bitmaps.specs.Paint.{some}
use Rattle.bitmaps.specs.Units.{unit_bytes, unit_start, bit_index, bit_at, byte_of, packed, row_byte, turned, shown_byte}
use Rattle.bitmaps.specs.Rows.{column}
use Rattle.bitmaps.specs.declared.Order.{Order}
use Rattle.bitmaps.proofs.Searching.{below_test}
use Rattle.bitmaps.proofs.UnitBits.{bit_held, eight_bit, same_held}

-- ---- bits put together

pub packed_same : (f g : ℕ → Bool) (n : ℕ) → ((k : ℕ) → k < n → f k ≡ g k) → packed f n ≡ packed g n
unfolding packed
packed_same f g zero h = refl
packed_same f g (suc n) h = ap₂ (λ (a : ℕ) (b : Bool). a * 2 + cond b 1 0) (packed_same f g n (λ k l. h k (omega arith))) (h n (omega arith))

bit_small : (b : Bool) → cond b 1 0 < 2
bit_small true = omega arith
bit_small false = omega arith

bit_is : (b : Bool) → eqb (cond b 1 0) 1 ≡ b
bit_is true = refl
bit_is false = refl

-- bit k from the top is the k-th
packed_bit : (f : ℕ → Bool) (n k : ℕ) → k < n → packed f n / 2 ^ (n - 1 - k) % 2 ≡ cond (f k) 1 0
unfolding packed
packed_bit f zero k h = absurd (not-suc-le-zero h)
packed_bit f (suc n) k h =
    ⊎_elim
    (λ (last : k ≡ n).
    let none : suc n - 1 - k ≡ 0 = omega arith in
    rw (none, last) (omega (arith, bit_small (f n))))
    (λ l.
    let m = n - 1 - k in
    let more : suc n - 1 - k ≡ suc m = omega arith in
    let half : (packed f n * 2 + cond (f n) 1 0) / 2 ≡ packed f n = omega (arith, bit_small (f n)) in
    rw (more, pow-succ' 2 m, ← (div-div-eq-div-mul (packed f n * 2 + cond (f n) 1 0) 2 (2 ^ m)), half) (packed_bit f n k l))
    (eq-or-lt_of_le (le_of_suc-le-suc h))

pub column_packed : (f : ℕ → Bool) (k : ℕ) → k < 8 → column (packed f 8) k ≡ f k
unfolding column
column_packed f k h = ap (λ (x : ℕ). eqb x 1) (packed_bit f 8 k h) ∙ bit_is (f k)

-- a byte is its columns put together
column_byte : (b : ℕ) → b < 256 → packed (column b) 8 ≡ b
unfolding some column packed
column_byte b h = eqb-true (packed (column b) 8) b (below_test 256 (λ b. eqb (packed (column b) 8) b) refl b h)

-- ---- a row's byte

-- the same bytes are the same units, pixels and eight columns

digits_same : (d e : ℕ → ℕ) (w : ℕ) → ((i : ℕ) → d i ≡ e i) → digits d w ≡ digits e w
unfolding digits
digits_same d e zero h = refl
digits_same d e (suc w) h = ap₂ (λ (a b : ℕ). a * 256 + b) (digits_same d e w h) (h w)

pub same_bits : (s t : List ℕ) (o : Order) (a b c : ℕ) → ((i : ℕ) → byte_at s (a + i) ≡ byte_at t (b + i)) → bit_at s o a c ≡ bit_at t o b c
unfolding bit_at
same_bits s t o a b c h =
    let w = unit_bytes o.unit in
    let from = unit_start o c in
    ap (λ (x : ℕ). eqb (x / 2 ^ (8 * w - 1 - bit_index o c) % 2) 1)
    (digits_same (digit_at o.big w s (a + from)) (digit_at o.big w t (b + from)) w
    (λ i.
    let k = digit_index o.big w i in
    let there : a + from + k ≡ a + (from + k) = omega arith in
    let here : b + from + k ≡ b + (from + k) = omega arith in
    rw (there, here) (h (from + k))))

pub same_bytes : (s t : List ℕ) (o : Order) (a b j : ℕ) → ((i : ℕ) → byte_at s (a + i) ≡ byte_at t (b + i)) → row_byte s o a j ≡ row_byte t o b j
unfolding row_byte
same_bytes s t o a b j h = packed_same (λ k. bit_at s o a (8 * j + k)) (λ k. bit_at t o b (8 * j + k)) 8 (λ k l. same_bits s t o a b (8 * j + k) h)

-- bit 8 × j + k of a row is column k of its byte j
pub bit_of_byte : (s : List ℕ) (o : Order) (row j k : ℕ) → k < 8 → bit_at s o row (8 * j + k) ≡ column (row_byte s o row j) k
unfolding row_byte
bit_of_byte s o row j k h = sym (column_packed (λ k. bit_at s o row (8 * j + k)) k h)

pub bit_by_byte : (s : List ℕ) (o : Order) (row c : ℕ) → bit_at s o row c ≡ column (row_byte s o row (c / 8)) (c % 8)
bit_by_byte s o row c =
    let e : 8 * (c / 8) + c % 8 ≡ c = omega arith in
    ap (bit_at s o row) (sym e) ∙ bit_of_byte s o row (c / 8) (c % 8) (omega arith)

-- the columns from the last to the first are the bits from the lowest on
reversed_columns : (b : ℕ) → packed (λ k. column b (8 - 1 - k)) 8 ≡ turned 8 b
unfolding column turned
reversed_columns b =
    packed_same (λ k. eqb (b / 2 ^ (7 - (8 - 1 - k)) % 2) 1) (λ k. eqb (b / 2 ^ k % 2) 1) 8
    (λ k h. let e : 7 - (8 - 1 - k) ≡ k = omega arith in rw e refl)

shown_columns : (o : Order) (b : ℕ) → b < 256 → packed (λ k. column b (digit_index o.top 8 k)) 8 ≡ shown_byte o b
shown_columns o b h = by o.top
  where
    by : (top : Bool) → packed (λ k. column b (digit_index top 8 k)) 8 ≡ cond top b (turned 8 b)
    by true = column_byte b h
    by false = reversed_columns b

-- it is the byte that holds the columns
pub held_shown : (s : List ℕ) (o : Order) (row j : ℕ) → Octets s → row_byte s o row j ≡ shown_byte o (byte_at s (row + byte_of o (8 * j)))
unfolding row_byte
held_shown s o row j bytes =
    let b = byte_at s (row + byte_of o (8 * j)) in
    packed_same (λ k. bit_at s o row (8 * j + k)) (λ k. column b (digit_index o.top 8 k)) 8
    (λ k h. bit_held s o row (8 * j + k) bytes ∙ rw (same_held o j k h, eight_bit o j k h) refl)
    ∙ shown_columns o b (bytes.below (row + byte_of o (8 * j)))

-- read as that byte of the row
pub held_read : (row : List ℕ) (o : Order) (j k r : ℕ) → Octets row → k ≡ byte_of o (8 * j) → r ≡ shown_byte o (byte_at row k) → r ≡ row_byte row o 0 j
held_read row o j k r bytes held is =
    let there : k ≡ 0 + byte_of o (8 * j) = held ∙ omega arith in
    is ∙ ap (λ (i : ℕ). shown_byte o (byte_at row i)) there ∙ sym (held_shown row o 0 j bytes)

-- a blank byte shows blank columns
pub blank_shown : (o : Order) → shown_byte o 0 ≡ 0
unfolding turned packed
blank_shown o = by o.top
  where
    by : (top : Bool) → cond top 0 (turned 8 0) ≡ 0
    by true = refl
    by false = refl

pub blank_column : (k : ℕ) → column 0 k ≡ false
unfolding column
blank_column k = let e : 0 / 2 ^ (7 - k) ≡ 0 = zero-div (2 ^ (7 - k)) in rw e refl

-- where there are no bytes, the columns are blank
pub no_bytes : (s : List ℕ) (o : Order) (row j : ℕ) → ((i : ℕ) → byte_at s (row + i) ≡ 0) → row_byte s o row j ≡ 0
no_bytes s o row j h = same_bytes s [] o row 0 j h ∙ held_shown [] o 0 j (record { below = λ i. omega arith }) ∙ blank_shown o

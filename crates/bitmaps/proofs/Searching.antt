-- What `some` means: a search finds exactly where there is something to find.
use Prim.Native.Nat.{ℕ, zero, suc, ◌+◌, ◌<◌}
use mathlib.Core.Path.{◌≡◌, refl, sym, ap₂, ◌∙◌}
use mathlib.Core.Bool.{Bool, true, false, not, ◌&&◌, ◌||◌, false≢true}
use mathlib.Core.Logic.{⊎_elim}
use native.Mathlib.Nat.{le_of_suc-le-suc, not-suc-le-zero, eq-or-lt_of_le}
use native.Mathlib.Numerals.{add-one}
use native.Mathlib.Omega.{arith}
use Rattle.reads.proofs.Tests.{never, split, or_first_lem, or_second, or_cases}
use Rattle.bitmaps.specs.Paint.{some}

pub and_true : (a b : Bool) → a ≡ true → b ≡ true → a && b ≡ true
and_true a b e f = rw (e, f)

pub and_none : (a b : Bool) → b ≡ false → a && b ≡ false
and_none true b e = e
and_none false b e = refl

-- tests that pass together are equal
pub same_test : (a b : Bool) → (a ≡ true → b ≡ true) → (b ≡ true → a ≡ true) → a ≡ b
same_test a b f g = split a (λ t. t ∙ sym (f t)) (λ t. split b (λ u. never (sym t ∙ g u)) (λ u. t ∙ sym u))

-- a number below n that passes is found
pub some_true : (n : ℕ) (f : ℕ → Bool) (k : ℕ) → k < n → f k ≡ true → some n f ≡ true
unfolding some
some_true zero f k h e = absurd (not-suc-le-zero h)
some_true (suc n) f k h e =
    ⊎_elim (λ s. or_second (some n f) (f n) (rw s at e)) (λ l. or_first_lem (some n f) (f n) (some_true n f k l e))
    (eq-or-lt_of_le (le_of_suc-le-suc h))

-- what is found is a number below n that passes
pub some_witness : (n : ℕ) (f : ℕ → Bool) → some n f ≡ true → (k : ℕ) × (k < n) × (f k ≡ true)
unfolding some
some_witness zero f e = absurd (false≢true e)
some_witness (suc n) f e =
    ⊎_elim (λ l. let w = some_witness n f l in (w.0, omega (arith, w.1), w.2)) (λ r. (n, omega arith, r)) (or_cases (some n f) (f n) e)

-- where nothing is found, no number below n passes
pub some_false : (n : ℕ) (f : ℕ → Bool) → some n f ≡ false → (k : ℕ) → k < n → f k ≡ false
some_false n f e k h = split (f k) (λ t. never (sym e ∙ some_true n f k h t)) (λ t. t)

-- where no number below n passes, nothing is found
pub some_none : (n : ℕ) (f : ℕ → Bool) → ((k : ℕ) → k < n → f k ≡ false) → some n f ≡ false
some_none n f g = split (some n f) (λ t. let (k, h, e) = some_witness n f t in never (sym (g k h) ∙ e)) (λ t. t)

-- tests that agree below n find alike
pub some_same : (n : ℕ) (f g : ℕ → Bool) → ((k : ℕ) → k < n → f k ≡ g k) → some n f ≡ some n g
unfolding some
some_same zero f g h = refl
some_same (suc n) f g h = ap₂ (λ (x y : Bool). x || y) (some_same n f g (λ k l. h k (omega arith))) (h n (omega arith))

-- what is found by either of two tests is found by one of them
pub some_or : (n : ℕ) (f g : ℕ → Bool) → some n (λ k. f k || g k) ≡ some n f || some n g
some_or n f g =
    same_test (some n (λ k. f k || g k)) (some n f || some n g)
    (λ e.
    let (k, h, t) = some_witness n (λ k. f k || g k) e in
    ⊎_elim (λ u. or_first_lem (some n f) (some n g) (some_true n f k h u)) (λ u. or_second (some n f) (some n g) (some_true n g k h u)) (or_cases (f k) (g k) t))
    (λ e.
    ⊎_elim
    (λ u. let (k, h, t) = some_witness n f u in some_true n (λ k. f k || g k) k h (or_first_lem (f k) (g k) t))
    (λ u. let (k, h, t) = some_witness n g u in some_true n (λ k. f k || g k) k h (or_second (f k) (g k) t))
    (or_cases (some n f) (some n g) e))

-- one number more
pub some_next : (n : ℕ) (f : ℕ → Bool) → some n f ≡ false → f n ≡ false → some (n + 1) f ≡ false
unfolding some
some_next n f e h = rw (add-one, e) h

-- a test that no number below n fails, as a search finds, holds of each
pub below_test : (n : ℕ) (f : ℕ → Bool) → some n (λ k. not (f k)) ≡ false → (k : ℕ) → k < n → f k ≡ true
below_test n f e k h = split (f k) (λ t. t) (λ t. never (sym (some_false n (λ k. not (f k)) e k h) ∙ rw t refl))

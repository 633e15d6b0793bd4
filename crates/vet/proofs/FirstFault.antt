-- What the first fault of a range says of each of its numbers, both ways, for any fault; and how a loop comes by it.
use mathlib.Core.Path.{◌≡◌, refl, sym, ap, ◌∙◌}
use mathlib.Core.Logic.{◌⊎◌, inl, inr, ⊎_elim}
use Prim.Native.Nat.{ℕ, zero, suc, ◌+◌, ◌-◌, ◌≤◌, ◌<◌}
use native.Mathlib.Nat.{eq-or-lt_of_le}
use native.Mathlib.Omega.{arith}
use lib.Dec.{ltb}
use borrow.Author.Tests.{ltb-true, ltb-false}
use Rattle.reads.proofs.Tests.{split}
use Rattle.vet.specs.First.{or_first, first_fault}
use Rattle.vet.specs.declared.First.{First}

-- no number from k up to, but not with, `end` has a fault
abbrev pub Faultless : (ℕ → ℕ) → ℕ → ℕ → Type 0
Faultless f k end = (j : ℕ) → k ≤ j → j < end → f j ≡ 0

-- number i is the first from k on with a fault, and m is that fault
pub record IsFirst (f : ℕ → ℕ) (k end m i : ℕ) : Type 0 where
  pub from : k ≤ i
  pub below : i < end
  pub fault : f i ≡ m
  pub is_one : m ≡ 0 → ⊥
  pub earlier : Faultless f k i

or_none : (m k : ℕ) (rest : First) → m ≡ 0 → or_first m k rest ≡ rest
or_none m k rest e = rw e refl

or_this : (m k : ℕ) (rest : First) → (m ≡ 0 → ⊥) → or_first m k rest ≡ First.At m k
or_this zero k rest z = absurd (z refl)
or_this (suc m) k rest z = refl

or_clear : (m k : ℕ) (rest : First) → or_first m k rest ≡ First.Clear → (m ≡ 0) × (rest ≡ First.Clear)
or_clear zero k rest e = (refl, e)
or_clear (suc m) k rest e = let z : ◌≡◌ {A = ℕ} 0 1 = cc in absurd (omega arith)

or_at : (m k n i : ℕ) (rest : First)
    → or_first m k rest ≡ First.At n i → ((m ≡ 0) × (rest ≡ First.At n i)) ⊎ ((m ≡ n) × (k ≡ i) × (n ≡ 0 → ⊥))
or_at zero k n i rest e = inl (refl, e)
or_at (suc m) k n i rest e =
    let a : suc m ≡ n = cc in
    let b : k ≡ i = cc in
    inr (a, b, λ z. omega arith)

module _ (f : ℕ → ℕ) where
  -- number k, and then those behind it
  one_more : (k i : ℕ) → f k ≡ 0 → Faultless f (k + 1) i → Faultless f k i
  one_more k i e p j h l = ⊎_elim (λ s. ap f (sym s) ∙ e) (λ s. p j (omega arith) l) (eq-or-lt_of_le h)

  pub none_clear : (n k : ℕ) → Faultless f k (k + n) → first_fault f n k ≡ First.Clear
  unfolding first_fault
  none_clear zero k p = refl
  none_clear (suc n) k p =
      or_none (f k) k (first_fault f n (k + 1)) (p k (omega arith) (omega arith))
      ∙ none_clear n (k + 1) (λ j h l. p j (omega arith) (omega arith))

  pub clear_none : (n k : ℕ) → first_fault f n k ≡ First.Clear → Faultless f k (k + n)
  unfolding first_fault
  clear_none zero k e = λ j h l. absurd (omega arith)
  clear_none (suc n) k e =
      let (here, later) = or_clear (f k) k (first_fault f n (k + 1)) e in
      one_more k (k + suc n) here (λ j h l. clear_none n (k + 1) later j h (omega arith))

  pub at_first : (n k m i : ℕ) → first_fault f n k ≡ First.At m i → IsFirst f k (k + n) m i
  unfolding first_fault
  at_first zero k m i e = let z : ◌≡◌ {A = ℕ} 0 1 = cc in absurd (omega arith)
  at_first (suc n) k m i e =
      ⊎_elim
      (λ (here, later).
      let w = at_first n (k + 1) m i later in
      record { from = omega (arith, w.from); below = omega (arith, w.below); fault = w.fault; is_one = w.is_one; earlier = one_more k i here w.earlier })
      (λ (fault, this, is_one).
      record { from = omega arith; below = omega arith; fault = ap f (sym this) ∙ fault; is_one = is_one; earlier = λ j h l. absurd (omega arith) })
      (or_at (f k) k m i (first_fault f n (k + 1)) e)

  pub first_at : (n k m i : ℕ) → IsFirst f k (k + n) m i → first_fault f n k ≡ First.At m i
  unfolding first_fault
  first_at zero k m i w = absurd (omega (arith, w.from, w.below))
  first_at (suc n) k m i w =
      ⊎_elim
      (λ this.
      let e : f k ≡ m = ap f this ∙ w.fault in
      or_this (f k) k (first_fault f n (k + 1)) (λ z. w.is_one (sym e ∙ z)) ∙ rw (e, this) refl)
      (λ behind.
      or_none (f k) k (first_fault f n (k + 1)) (w.earlier k (omega arith) behind)
      ∙ first_at n (k + 1) m i
      record { from = omega arith; below = omega (arith, w.below); fault = w.fault; is_one = w.is_one; earlier = λ j h l. w.earlier j (omega arith) l })
      (eq-or-lt_of_le w.from)

  -- a loop that stands at number k, before `end`, where what is left answers for all: it ends, it stops, it goes on
  module _ (end k : ℕ) (all : First) (so_far : first_fault f (end - k) k ≡ all) where
    pub loop_ends : end ≤ k → First.Clear ≡ all
    loop_ends h = sym (none_clear (end - k) k (λ j l m. absurd (omega arith))) ∙ so_far

    pub loop_stops : (m : ℕ) → k < end → m ≡ f k → (m ≡ 0 → ⊥) → First.At m k ≡ all
    loop_stops m h e z =
        sym (first_at (end - k) k m k
        record { from = omega arith; below = omega arith; fault = sym e; is_one = z; earlier = λ j l n. absurd (omega arith) })
        ∙ so_far

    pub loop_goes_on : (m : ℕ) → k < end → m ≡ f k → m ≡ 0 → first_fault f (end - (k + 1)) (k + 1) ≡ all
    unfolding first_fault
    loop_goes_on m h e z =
        let one : end - k ≡ suc (end - (k + 1)) = omega arith in
        sym (or_none (f k) k (first_fault f (end - (k + 1)) (k + 1)) (sym e ∙ z)) ∙ (rw one at so_far)

  -- all N numbers, by those of a range outside which there is no fault
  module _ (N low end : ℕ) (within : end ≤ N) (before : (j : ℕ) → j < low → f j ≡ 0) (after : (j : ℕ) → end ≤ j → f j ≡ 0) where
    none_before : (i : ℕ) → Faultless f low i → Faultless f 0 i
    none_before i p j h l = split (ltb j low) (λ t. before j (ltb-true j low t)) (λ t. p j (ltb-false j low t) l)

    by : (x : First) → first_fault f (end - low) low ≡ x → first_fault f N 0 ≡ x
    by First.Clear e =
        none_clear N 0
        (λ j h l. split (ltb j end)
        (λ t. none_before end (λ i m n. clear_none (end - low) low e i m (omega arith)) j h (ltb-true j end t))
        (λ t. after j (ltb-false j end t)))
    by (First.At m i) e =
        let w = at_first (end - low) low m i e in
        first_at N 0 m i
        record { from = omega arith; below = omega (arith, w.below, w.from); fault = w.fault; is_one = w.is_one; earlier = none_before i w.earlier }

    pub by_range : first_fault f N 0 ≡ first_fault f (end - low) low
    by_range = by (first_fault f (end - low) low) refl

-- The laws of tests: what a test's answer tells.
use mathlib.Core.Path.{◌≡◌, refl, sym, subst, ◌∙◌}
use mathlib.Core.Bool.{Bool, true, false, cond, ◌&&◌, ◌||◌}
use mathlib.Core.Logic.{◌⊎◌, inl, inr}
use Prim.Native.Nat.{ℕ, ◌≤◌, ◌<◌}
use lib.Dec.{T, leb, ltb}
use borrow.Author.Tests.{leb-true, le-leb, ltb-true, ltb-false}

pub never : {P : Type 0} → false ≡ true → P
never e = absurd (subst T (sym e) tt)

-- a case on a test, with its answer
pub split {ℓ} : {P : Type ℓ} (t : Bool) → (t ≡ true → P) → (t ≡ false → P) → P
split true f g = f refl
split false f g = g refl

-- two tests that mean the same are equal
pub same_leb : (a b c d : ℕ) → (a ≤ b → c ≤ d) → (c ≤ d → a ≤ b) → leb a b ≡ leb c d
same_leb a b c d f g =
    split (leb c d)
    (λ t. le-leb a b (g (leb-true c d t)) ∙ sym t)
    (λ t. split (leb a b) (λ u. u ∙ sym (le-leb c d (f (leb-true a b u)))) (λ u. u ∙ sym t))

-- a choice has what both its sides have
pub either {ℓ m} : {A : Type ℓ} (P : A → Type m) (t : Bool) {x y : A} → P x → P y → P (cond t x y)
either P true p q = p
either P false p q = q

-- and what each has under the test's answer
pub choose {ℓ m} : {A : Type ℓ} (P : A → Type m) (t : Bool) {x y : A} → (t ≡ true → P x) → (t ≡ false → P y) → P (cond t x y)
choose P true f g = f refl
choose P false f g = g refl

-- the same by a comparison
pub unless {ℓ m} : {A : Type ℓ} (P : A → Type m) (a b : ℕ) {x y : A} → (a < b → P x) → (b ≤ a → P y) → P (cond (ltb a b) x y)
unless P a b f g = choose P (ltb a b) (λ t. f (ltb-true a b t)) (λ t. g (ltb-false a b t))

-- what it tells that both of two tests hold
pub both : (a b : Bool) → (a && b) ≡ true → (a ≡ true) × (b ≡ true)
both true b e = (refl, e)
both false b e = never e

-- and that one of two does, or neither
pub or_first_lem : (a b : Bool) → a ≡ true → a || b ≡ true
or_first_lem a b e = rw e

pub or_second : (a b : Bool) → b ≡ true → a || b ≡ true
or_second true b e = refl
or_second false b e = e

pub or_cases : (a b : Bool) → a || b ≡ true → (a ≡ true) ⊎ (b ≡ true)
or_cases true b e = inl refl
or_cases false b e = inr e

pub or_neither : (a b : Bool) → a || b ≡ false → (a ≡ false) × (b ≡ false)
or_neither true b e = never (sym e)
or_neither false b e = (refl, e)

-- What a call with a record answers, from what the two tests before it said.
use Prim.Native.Nat.{ℕ}
use mathlib.Core.Path.{◌≡◌, refl, sym, ◌∙◌}
use mathlib.Core.Bool.{Bool, true, false, cond, not}
use mathlib.Core.List.{List}
use mathlib.Core.Logic.{◌↔◌}
use native.Mathlib.Omega.{arith}
use lib.ListN.{length}
use borrow.Author.Tests.{not-true, not-false}
use Rattle.reads.specs.Said.{refusal}
use Rattle.reads.specs.declared.Refusal.{Refusal}
use Rattle.reads.proofs.Tests.{never}
use Rattle.tables.specs.Fits.{record_fits, guarded, guard, ladder, said_permit}
use Rattle.tables.specs.declared.Permit.{Permit}
use Rattle.tables.specs.declared.Record.{Record}

-- the code's own two tests

pub guard_6 : (fits within : Bool) → not fits ≡ true → Permit.Refused (refusal 6 0) ≡ ladder fits within
unfolding ladder
guard_6 fits within e = rw (not-true fits e)

pub guard_15 : (fits within : Bool) → not fits ≡ false → not within ≡ true → Permit.Refused (refusal 15 0) ≡ ladder fits within
unfolding ladder
guard_15 fits within fit e = rw (not-false fits fit, not-true within e)

pub guard_gives : (fits within : Bool) → not fits ≡ false → not within ≡ false → Permit.Given ≡ ladder fits within
unfolding ladder
guard_gives fits within fit e = rw (not-false fits fit, not-false within e)

-- a call after them; both tests are yes or no

pub is_guard : (s : List ℕ) (rec : Record) (fits within : Bool) (g : Permit) → fits ≡ record_fits (length s) rec → g ≡ ladder fits within
    → g ≡ guard s rec within
is_guard s rec fits within g fits-is g-is = rw (← fits-is) g-is

not_given : (r : Refusal) → Permit.Refused r ≡ Permit.Given → ⊥
not_given r e = let z : ◌≡◌ {A = ℕ} 0 1 = cc in omega arith

-- a permit is given where both hold
pub passes : (fits within : Bool) → ladder fits within ≡ Permit.Given → (fits ≡ true) × (within ≡ true)
unfolding ladder
passes true true e = (refl, refl)
passes true false e = absurd (not_given (refusal 15 0) e)
passes false within e = absurd (not_given (refusal 6 0) e)

-- and has the number 0 exactly there
pub guard_passes : (fits within : Bool) → ((said_permit (ladder fits within)).number ≡ 0) ↔ ((fits ≡ true) × (within ≡ true))
unfolding ladder
guard_passes true true = (λ e. (refl, refl), λ w. refl)
guard_passes true false = (λ e. absurd (omega (arith, e)), λ (f, w). never w)
guard_passes false within = (λ e. absurd (omega (arith, e)), λ (f, w). never f)

ladder_given : (fits within : Bool) (after : Permit)
    → cond fits (cond within after (Permit.Refused (refusal 15 0))) (Permit.Refused (refusal 6 0)) ≡ Permit.Given → within ≡ true
ladder_given true true after e = refl
ladder_given true false after e = absurd (not_given (refusal 15 0) e)
ladder_given false within after e = absurd (not_given (refusal 6 0) e)

refuses : {A : Type 0} (refused : Refusal → A) (answer : A) (r : Refusal) (fits within : Bool)
    → ladder fits within ≡ Permit.Refused r → refused r ≡ cond fits (cond within answer (refused (refusal 15 0))) (refused (refusal 6 0))
unfolding ladder
refuses refused answer r true true e = absurd (not_given r (sym e))
refuses refused answer r true false e = let q : refusal 15 0 ≡ r = cc in rw q refl
refuses refused answer r false within e = let q : refusal 6 0 ≡ r = cc in rw q refl

module _ (s : List ℕ) (rec : Record) (within : Bool) (g : Permit) (g-is : g ≡ guard s rec within) where
  pub given_passes : g ≡ Permit.Given → (record_fits (length s) rec ≡ true) × (within ≡ true)
  given_passes e = passes (record_fits (length s) rec) within (sym g-is ∙ e)

  module _ {A : Type 0} (refused : Refusal → A) (answer : A) where
    pub guarded_answers : g ≡ Permit.Given → guarded refused s rec within answer ≡ answer
    guarded_answers e = let both = given_passes e in rw (both.0, both.1) refl

    pub guarded_refuses : (r : Refusal) → g ≡ Permit.Refused r → guarded refused s rec within answer ≡ refused r
    guarded_refuses r e = sym (refuses refused answer r (record_fits (length s) rec) within (sym g-is ∙ e))

-- where an answer is Given the arguments are within their limits
pub guarded_within : (s : List ℕ) (rec : Record) (within : Bool) (after : Permit) → guarded Permit.Refused s rec within after ≡ Permit.Given → within ≡ true
guarded_within s rec within after e = ladder_given (record_fits (length s) rec) within after e

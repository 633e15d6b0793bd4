-- A buffer filled up to a place. Assumes nothing.
use mathlib.Core.Path.{◌≡◌, refl, ◌∙◌}
use mathlib.Core.List.{List}
use mathlib.Core.Logic.{◌⊎◌, inl, inr}
use Prim.Native.Nat.{ℕ, ◌+◌, ◌<◌, ◌≤◌}
use native.Mathlib.Nat.{eq-or-lt_of_le}
use native.Mathlib.Omega.{arith}
use lib.ListN.{length, get_or, set, length-set}
use lib.Seq.{get_or-set_same, get_or-set_other}
use Rattle.console.specs.Before.{before, Filled}

pub record Filling (old new : List ℕ) (end : ℕ) : Type 0 where
  pub same_length : length new ≡ length old
  pub each : (i : ℕ) → i < end → get_or new i 0 ≡ before i

pub filling_none : (old : List ℕ) → Filling old old 0
filling_none old = record { same_length = refl; each = λ i h. absurd (omega arith) }

module _ (old new : List ℕ) (end : ℕ) (filling : Filling old new end) where
  stored : (v : ℕ) → end < length new → v ≡ before end → (i : ℕ) → (i ≡ end) ⊎ (i < end)
      → get_or (set new end v) i 0 ≡ before i
  stored v h e i (inl is) = rw is (get_or-set_same new end v 0 h ∙ e)
  stored v h e i (inr below) = get_or-set_other new end i v 0 (λ is. omega arith) ∙ filling.each i below

  pub filling_next : (v : ℕ) → end < length new → v ≡ before end → Filling old (set new end v) (end + 1)
  filling_next v h e =
      record {
        same_length = length-set new end v ∙ filling.same_length;
        each = λ i below. stored v h e i (eq-or-lt_of_le (omega arith));
      }

  pub filling_all : length new ≤ end → Filled old new
  filling_all h = record { same_length = filling.same_length; each = λ i below. filling.each i (omega arith) }

pub ruleset filling = (filling_none, filling_next, filling_all)

-- The search for a zero byte: what is left to look at from a byte on answers for the whole.
use mathlib.Core.Path.{◌≡◌, refl, ◌∙◌}
use mathlib.Core.Bool.{cond}
use mathlib.Core.List.{List}
use Prim.Native.Nat.{ℕ, suc, ◌+◌, ◌-◌, ◌<◌, ◌≤◌}
use native.Mathlib.Omega.{arith}
use lib.Dec.{eqb}
use borrow.Author.Tests.{eq-eqb, ne_eqb}
use Rattle.reads.specs.Num.{byte_at}
use Rattle.names.specs.Strings.{zero_from}
use Rattle.names.specs.declared.Zero.{Zero}

module _ (s : List ℕ) (at left k : ℕ) (so_far : zero_from s at (left - k) k ≡ zero_from s at left 0) where
  pub zero_none : left ≤ k → Zero.Nothing ≡ zero_from s at left 0
  unfolding zero_from
  zero_none h = let e : left - k ≡ 0 = omega arith in (rw e refl) ∙ so_far

  module _ (h : k < left) where
    zero_step : cond (eqb (byte_at s (at + k)) 0) (Zero.After k) (zero_from s at (left - (k + 1)) (k + 1)) ≡ zero_from s at left 0
    unfolding zero_from
    zero_step = let e : left - k ≡ suc (left - (k + 1)) = omega arith in (rw e refl) ∙ so_far

    pub zero_here : byte_at s (at + k) ≡ 0 → Zero.After k ≡ zero_from s at left 0
    zero_here e = rw (eq-eqb _ _ e) at zero_step

    pub zero_more : (byte_at s (at + k) ≡ 0 → ⊥) → zero_from s at (left - (k + 1)) (k + 1) ≡ zero_from s at left 0
    zero_more e = rw (ne_eqb _ _ e) at zero_step

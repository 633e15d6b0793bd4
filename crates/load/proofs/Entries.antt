-- The walk over the directory: from an entry on, what is left to do gives what the whole walk gives.
use mathlib.Core.Path.{◌≡◌, ◌∙◌}
use mathlib.Core.Bool.{Bool}
use mathlib.Core.List.{List}
use Prim.Native.Nat.{ℕ, suc, ◌+◌, ◌-◌, ◌≤◌, ◌<◌}
use native.Mathlib.Nat.{sub-zero}
use native.Mathlib.Omega.{arith}
use Rattle.reads.specs.Said.{refusal}
use Rattle.load.specs.declared.Gathered.{Gathered}
use Rattle.load.specs.declared.Entered.{Entered}
use Rattle.load.specs.declared.Loaded.{Loaded}
use Rattle.load.specs.Gather.{nothing, finished}
use Rattle.load.specs.Load.{entry_at, after_entry, entries_from}

-- before entry number k, with what those before it gave
pub record Walking (strict : Bool) (s : List ℕ) (count k : ℕ) (g : Gathered) : Type 0 where
  pub reached : k ≤ count
  pub rest : entries_from strict s (count - k) k g ≡ entries_from strict s count 0 nothing

pub walk_begins : (strict : Bool) (s : List ℕ) (count : ℕ) (g : Gathered) → g ≡ nothing → Walking strict s count 0 g
walk_begins strict s count g e = record { reached = omega arith; rest = rw (e, sub-zero) }

module _ (strict : Bool) (s : List ℕ) (count k : ℕ) (g : Gathered) (now : Walking strict s count k g) where
  pub walk_ends : (r : Loaded) → count ≤ k → r ≡ finished g → r ≡ entries_from strict s count 0 nothing
  unfolding entries_from
  walk_ends r l is = let e : count - k ≡ 0 = omega arith in is ∙ (rw e at now.rest)

  module _ (entry : Entered) (more : k < count) (entry-is : entry ≡ entry_at strict s k g) where
    step : after_entry entry k (λ h. entries_from strict s (count - (k + 1)) (k + 1) h) ≡ entries_from strict s count 0 nothing
    unfolding entries_from
    step = let e : count - k ≡ suc (count - (k + 1)) = omega arith in rw entry-is (rw e at now.rest)

    pub walk_goes_on : (h : Gathered) → entry ≡ Entered.Next h → Walking strict s count (k + 1) h
    walk_goes_on h e = record { reached = omega arith; rest = rw e at step }

    pub walk_stops : (n : ℕ) → entry ≡ Entered.Refused n → Loaded.Refused (refusal n k) ≡ entries_from strict s count 0 nothing
    walk_stops n e = rw e at step

-- The number that a step is refused with: 19.
use Prim.Native.Nat.{ℕ}
use mathlib.Core.Path.{◌≡◌, refl}
use mathlib.Core.List.{List, [], ◌∷◌}
use Rattle.reads.specs.Said.{NumberedBy}
use Rattle.reads.proofs.Numbers.{has_values, has_number}
use Rattle.utf8.specs.Step.{step_at, said_step}
use Rattle.utf8.specs.declared.Step.{Step}
use Rattle.utf8.proofs.Characters.{step_refused}

pub step_at_refusals : (s : List ℕ) (i : ℕ) → NumberedBy (19 ∷ []) (said_step (step_at s i))
step_at_refusals s i = by (step_at s i) refl where
  by : (x : Step) → step_at s i ≡ x → NumberedBy (19 ∷ []) (said_step x)
  by (Step.Char c next) e = has_values
  by Step.End e = has_values
  by (Step.Refused r) e = has_number (rw (step_refused s i r e).0 refl)

-- Reads past the end are 0, wherever they are: what lets a place be cut at the end.
use mathlib.Core.Path.{◌≡◌, refl, sym, ◌∙◌}
use mathlib.Core.List.{List}
use mathlib.Core.Bool.{Bool, true, false}
use Prim.Native.Nat.{ℕ, ◌+◌, ◌≤◌, ◌<◌, min}
use native.Mathlib.Omega.{arith}
use lib.ListN.{length, get_or-eq_default}
use lib.Dec.{leb}
use borrow.Author.Tests.{lt-leb, leb-true, leb-false}
use Rattle.reads.specs.Num.{byte_at, num_at}
use Rattle.reads.proofs.Tests.{split}

pub byte_past : (s : List ℕ) (at : ℕ) → length s ≤ at → byte_at s at ≡ 0
byte_past s at h = get_or-eq_default s 0 h

pub number_past : (big : Bool) (w : ℕ) (s : List ℕ) (at : ℕ) → length s < at + w → num_at big w s at ≡ 0
unfolding num_at
number_past big w s at h = rw (lt-leb (at + w) (length s) h) refl

-- a place cut at the end reads the same
module _ (s : List ℕ) (at k : ℕ) where
  within : leb at (length s) ≡ true → min at (length s) ≡ at
  within t = omega (arith, leb-true at (length s) t)

  past : leb at (length s) ≡ false → (length s < at) × (min at (length s) ≡ length s)
  past t = let h : length s < at = leb-false at (length s) t in (h, omega arith)

  pub byte_reach : byte_at s (min at (length s) + k) ≡ byte_at s (at + k)
  byte_reach =
      split (leb at (length s)) (λ t. rw (within t) refl)
      (λ t. byte_past s (min at (length s) + k) (omega (arith, past t)) ∙ sym (byte_past s (at + k) (omega (arith, past t))))

  pub number_reach : (big : Bool) (w : ℕ) → 0 < w → num_at big w s (min at (length s) + k) ≡ num_at big w s (at + k)
  number_reach big w h =
      split (leb at (length s)) (λ t. rw (within t) refl)
      (λ t. number_past big w s (min at (length s) + k) (omega (arith, past t)) ∙ sym (number_past big w s (at + k) (omega (arith, past t))))

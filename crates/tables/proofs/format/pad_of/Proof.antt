use Prim.Native.Nat.{ℕ, ◌%◌}
use mathlib.Core.Path.{◌≡◌}
use native.Mathlib.Omega.{arith}
use Rattle.tables.specs.Format.{pad_of}
use Rattle.tables.proofs.format.pad_of.Statement.{statement}
use Rattle.tables.proofs.format.pad_of.Tie as tie

module _ (format : ℕ) where
  pad-1 : format % 4 ≡ 0 → 1 ≡ pad_of format
  pad-1 e = rw e

  pad-2 : format % 4 ≡ 1 → 2 ≡ pad_of format
  pad-2 e = rw e

  pad-4 : format % 4 ≡ 2 → 4 ≡ pad_of format
  pad-4 e = rw e

  pad-8 : (format % 4 ≡ 0 → ⊥) → (format % 4 ≡ 1 → ⊥) → (format % 4 ≡ 2 → ⊥) → 8 ≡ pad_of format
  pad-8 l m n = let e : format % 4 ≡ 3 = omega arith in rw e

pub pad_of_spec : {M : Type 1} → statement M
pad_of_spec =
    tie.close
    (tie.spec (λ c. search pad-1) (λ c. search pad-2) (λ c. search pad-4) (λ c. search pad-8))

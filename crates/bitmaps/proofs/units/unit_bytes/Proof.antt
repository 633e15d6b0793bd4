use Prim.Native.Nat.{ℕ}
use mathlib.Core.Path.{◌≡◌, refl, sym}
use Rattle.bitmaps.specs.Units.{unit_bytes}
use Rattle.bitmaps.proofs.RowEnds.{four_bytes}
use Rattle.bitmaps.proofs.units.unit_bytes.Statement.{statement}
use Rattle.bitmaps.proofs.units.unit_bytes.Tie as tie

module _ (code : ℕ) where
  one : code ≡ 0 → 1 ≡ unit_bytes code
  one e = rw e refl

  two : code ≡ 1 → 2 ≡ unit_bytes code
  two e = rw e refl

  four : (code ≡ 0 → ⊥) → (code ≡ 1 → ⊥) → 4 ≡ unit_bytes code
  four e f = sym (four_bytes code e f)

pub unit_bytes_spec : {M : Type 1} → statement M
unit_bytes_spec =
    tie.close
    (tie.spec
    (λ c. search one)  -- returns
    (λ c. search two)  -- returns-2
    (λ c. search four))  -- returns-3

use Prim.Native.Nat.{ℕ, ◌+◌, ◌-◌, ◌*◌, ◌/◌, ◌^◌, ◌<◌}
use mathlib.Core.Path.{◌≡◌, refl, sym}
use native.Mathlib.Nat.{div-mul-le_self, mul-zero}
use native.Mathlib.Omega.{arith}
use mir.Syntax.{w32}
use mir.Val.{Fits}
use Rattle.bitmaps.specs.Rows.{row_bytes, row_stride}
use borrow.Author.Rules.{rules}
use Rattle.bitmaps.proofs.data.row_stride.Statement.{statement}
use Rattle.bitmaps.proofs.data.row_stride.Tie as tie

module _ (width pad : ℕ) where
  -- any number divided by 0 and then taken 0 times
  no-pad : pad ≡ 0 → 0 ≡ row_stride width pad
  no-pad e = rw e (sym (mul-zero _))

  module _ (bytes : ℕ) (bytes-is : bytes ≡ row_bytes width) where
    padded : (bytes + (pad - 1)) / pad * pad ≡ row_stride width pad
    padded = rw bytes-is refl

    by_one : pad ≡ 1 → bytes ≡ row_stride width pad
    by_one e = rw (bytes-is, e) (omega arith)

    by-four : pad ≡ 4 → (bytes + 3) / 4 * 4 ≡ row_stride width pad
    by-four e = rw (bytes-is, e) refl

    stride_fits : width < 2 ^ 16 → pad < 2 ^ 8 → Fits w32 ((bytes + (pad - 1)) / pad * pad)
    stride_fits h k = omega (arith, div-mul-le_self (bytes + (pad - 1)) pad)

pub row_stride_spec : {M : Type 1} → statement M
row_stride_spec =
    tie.close
    (tie.spec
    (λ c. search no-pad)  -- returns
    (λ c κs. search rules)  -- row_bytes-requires
    (λ c. search by_one)  -- returns-2
    (λ c. search rules)  -- add-result
    (λ c. search rules)  -- mul-result
    (λ c. search by-four)  -- returns-3
    (λ c. search rules)  -- sub-result
    (λ c. search rules)  -- add-result-2
    (λ c. search rules)  -- div-result
    (λ c. search stride_fits)  -- mul-result-2
    (λ c. search padded))  -- returns-4

use Prim.Native.Nat.{ℕ, ◌+◌, ◌*◌, ◌/◌}
use mathlib.Core.Path.{◌≡◌, refl, sym, ◌∙◌}
use mathlib.Core.Bool.{true, false, beq}
use native.Mathlib.Omega.{arith}
use Rattle.bitmaps.specs.Rows.{row_bytes, row_end}
use Rattle.bitmaps.specs.declared.Order.{Order}
use Rattle.bitmaps.proofs.RowEnds.{four_bytes, held_alone, held_straight, held_mirrored, end_straight, end_mirrored}
use borrow.Author.Rules.{rules}
use Rattle.bitmaps.proofs.units.row_end.Statement.{statement}
use Rattle.bitmaps.proofs.units.row_end.Tie as tie

module _ (o : Order) (width bytes : ℕ) (bytes-are : bytes ≡ row_bytes width) where
  alone : o.unit ≡ 0 → bytes ≡ row_end o width
  alone e = bytes-are ∙ sym (end_straight o (λ j. held_alone o j e) width)

  straight : beq o.big o.top ≡ true → bytes ≡ row_end o width
  straight t = bytes-are ∙ sym (end_straight o (λ j. held_straight o j t) width)

  pairs : beq o.big o.top ≡ false → o.unit ≡ 1 → (bytes + 1) / 2 * 2 ≡ row_end o width
  pairs t e = rw bytes-are (sym (end_mirrored o 2 (omega arith) (λ j. held_mirrored o j 2 (rw e refl) t) width))

  fours : beq o.big o.top ≡ false → (o.unit ≡ 0 → ⊥) → (o.unit ≡ 1 → ⊥) → (bytes + 3) / 4 * 4 ≡ row_end o width
  fours t e f = rw bytes-are (sym (end_mirrored o 4 (omega arith) (λ j. held_mirrored o j 4 (four_bytes o.unit e f) t) width))

pub row_end_spec : {M : Type 1} → statement M
row_end_spec =
    tie.close
    (tie.spec
    (λ c κs. search rules)  -- row_bytes-requires
    (λ c. search alone)  -- returns
    (λ c. search straight)  -- returns-2
    (λ c. search rules)  -- add-result
    (λ c. search rules)  -- mul-result
    (λ c. search pairs)  -- returns-3
    (λ c. search rules)  -- add-result-2
    (λ c. search rules)  -- mul-result-2
    (λ c. search fours))  -- returns-4

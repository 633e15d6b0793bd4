use Prim.Native.Nat.{ℕ, ◌+◌, ◌-◌, ◌*◌, ◌/◌, ◌%◌}
use mathlib.Core.Path.{◌≡◌, refl, sym}
use mathlib.Core.Bool.{true, false, ◌||◌, beq}
use mathlib.Core.Logic.{⊎_elim}
use lib.Dec.{eqb}
use borrow.Author.Tests.{eqb-true, eqb-false}
use Rattle.reads.proofs.Tests.{or_cases, or_neither}
use Rattle.bitmaps.specs.Units.{byte_of}
use Rattle.bitmaps.specs.declared.Order.{Order}
use Rattle.bitmaps.proofs.RowEnds.{four_bytes, held_alone, held_straight, held_mirrored}
use borrow.Author.Rules.{rules}
use Rattle.bitmaps.proofs.units.held_byte.Statement.{statement}
use Rattle.bitmaps.proofs.units.held_byte.Tie as tie

-- one byte to a unit, or bytes in the order of the columns
module _ (o : Order) (j : ℕ) where
  in-turn : (eqb o.unit 0 || beq o.big o.top) ≡ true → j ≡ byte_of o (8 * j)
  in-turn t = ⊎_elim (λ e. sym (held_alone o j (eqb-true o.unit 0 e))) (λ e. sym (held_straight o j e)) (or_cases (eqb o.unit 0) (beq o.big o.top) t)

  module _ (t : (eqb o.unit 0 || beq o.big o.top) ≡ false) where
    several : eqb o.unit 0 ≡ false
    several = (or_neither (eqb o.unit 0) (beq o.big o.top) t).0

    mirrored : beq o.big o.top ≡ false
    mirrored = (or_neither (eqb o.unit 0) (beq o.big o.top) t).1

    pairs : o.unit ≡ 1 → j / 2 * 2 + (1 - j % 2) ≡ byte_of o (8 * j)
    pairs e = sym (held_mirrored o j 2 (rw e refl) mirrored)

    fours : (o.unit ≡ 1 → ⊥) → j / 4 * 4 + (3 - j % 4) ≡ byte_of o (8 * j)
    fours f = sym (held_mirrored o j 4 (four_bytes o.unit (eqb-false o.unit 0 several) f) mirrored)

pub held_byte_spec : {M : Type 1} → statement M
held_byte_spec =
    tie.close
    (tie.spec
    (λ c. search in-turn)  -- returns
    (λ c. search rules)  -- mul-result
    (λ c. search rules)  -- sub-result
    (λ c. search rules)  -- add-result
    (λ c. search pairs)  -- returns-2
    (λ c. search rules)  -- mul-result-2
    (λ c. search rules)  -- sub-result-2
    (λ c. search rules)  -- add-result-2
    (λ c. search fours))  -- returns-3

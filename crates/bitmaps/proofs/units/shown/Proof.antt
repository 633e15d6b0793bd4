use Prim.Native.Nat.{ℕ}
use mathlib.Core.Path.{◌≡◌, refl}
use mathlib.Core.Bool.{true, false}
use Rattle.bitmaps.specs.Units.{turned, shown_byte}
use Rattle.bitmaps.specs.declared.Order.{Order}
use borrow.Author.Rules.{rules}
use Rattle.bitmaps.proofs.units.shown.Statement.{statement}
use Rattle.bitmaps.proofs.units.shown.Tie as tie

module _ (o : Order) (byte : ℕ) where
  as-it-is : o.top ≡ true → byte ≡ shown_byte o byte
  as-it-is t = rw t refl

  turned_round : o.top ≡ false → (r : ℕ) → r ≡ turned 8 byte → r ≡ shown_byte o byte
  turned_round t r is = rw t is

pub shown_spec : {M : Type 1} → statement M
shown_spec =
    tie.close
    (tie.spec
    (λ c. search as-it-is)  -- returns
    (λ c κs. search rules)  -- reversed-requires
    (λ c. search turned_round))  -- returns-2

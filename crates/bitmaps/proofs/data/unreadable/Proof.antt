use Prim.Native.Nat.{ℕ}
use mathlib.Core.Path.{◌≡◌, refl}
use mathlib.Core.Bool.{◌||◌}
use native.Mathlib.Omega.{arith}
use lib.Dec.{eqb, ltb}
use borrow.Author.Tests.{eqb-true, eq-eqb, ltb-true, lt-ltb}
use Rattle.tables.specs.declared.BitmapData.{BitmapData}
use Rattle.bitmaps.specs.Units.{unit_bytes}
use Rattle.bitmaps.specs.Picture.{unreadable}
use Rattle.bitmaps.proofs.Searching.{same_test}
use borrow.Author.Rules.{rules}
use Rattle.bitmaps.proofs.data.unreadable.Statement.{statement}
use Rattle.bitmaps.proofs.data.unreadable.Tie as tie

module _ (b : BitmapData) where
  one_byte : b.unit ≡ 0 → eqb b.pad 0 ≡ unreadable b
  one_byte e =
      rw e (same_test (eqb b.pad 0) (ltb b.pad 1) (λ t. lt-ltb b.pad 1 (omega (arith, eqb-true b.pad 0 t)))
      (λ t. eq-eqb b.pad 0 (omega (arith, ltb-true b.pad 1 t))))

  wider : (bytes : ℕ) → bytes ≡ unit_bytes b.unit → (ltb 2 b.unit || ltb b.pad bytes) ≡ unreadable b
  wider bytes e = rw e refl

pub unreadable_spec : {M : Type 1} → statement M
unreadable_spec =
    tie.close
    (tie.spec
    (λ c. search one_byte)  -- returns
    (λ c κs. search rules)  -- unit_bytes-requires
    (λ c. search wider))  -- returns-2

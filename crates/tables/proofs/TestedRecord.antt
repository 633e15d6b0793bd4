-- What a call answers that tests its record first: 6, or what it says of a record that passes.
use Prim.Native.Nat.{ℕ}
use mathlib.Core.Path.{◌≡◌, refl}
use mathlib.Core.Bool.{Bool, true, false}
use mathlib.Core.List.{List}
use lib.ListN.{length}
use Rattle.reads.specs.Said.{refusal}
use Rattle.reads.specs.declared.Refusal.{Refusal}
use Rattle.tables.specs.Fits.{record_fits, tested}
use Rattle.tables.specs.declared.Record.{Record}

module _ {A : Type 0} (refused : Refusal → A) (s : List ℕ) (rec : Record) (answer : A) (fits : Bool) (fits-is : fits ≡ record_fits (length s) rec) where
  pub tested_6 : fits ≡ false → refused (refusal 6 0) ≡ tested refused s rec answer
  tested_6 e = rw (← fits-is, e) refl

  pub tested_answers : (r : A) → fits ≡ true → r ≡ answer → r ≡ tested refused s rec answer
  tested_answers r e is = rw (← fits-is, e) is

-- The usual order, document 01's: byte j of a row holds columns 8j to 8j + 7, top bit leftmost, so that it is read as it stands, and the
-- pixel by units is document 01's bit.
use Prim.Native.Nat.{ℕ, ◌+◌, ◌*◌, ◌/◌, ◌%◌}
use mathlib.Core.Path.{◌≡◌, refl, ap, ◌∙◌}
use mathlib.Core.Bool.{true}
use mathlib.Core.List.{List}
use lib.Dec.{eqb}
use borrow.Author.Tests.{eqb-true}
use Rattle.reads.specs.Num.{byte_at, Octets}
use Rattle.reads.proofs.Tests.{both}
use Rattle.bitmaps.specs.Units.{bit_at, byte_of, row_byte, shown_byte, usual}
use Rattle.bitmaps.specs.Rows.{column}
use Rattle.bitmaps.specs.declared.Order.{Order}
use Rattle.bitmaps.proofs.RowEnds.{held_alone}
use Rattle.bitmaps.proofs.ShownBytes.{held_shown, bit_by_byte}

module _ (o : Order) (straight : usual o ≡ true) where
  -- byte j holds columns 8j to 8j + 7
  pub usual_held : (j : ℕ) → byte_of o (8 * j) ≡ j
  usual_held j = held_alone o j (eqb-true o.unit 0 (both (eqb o.unit 0) o.top straight).0)

  -- a byte is shown as it stands
  usual_as_is : (byte : ℕ) → shown_byte o byte ≡ byte
  usual_as_is byte = rw (both (eqb o.unit 0) o.top straight).1 refl

  -- eight columns are the byte at their place
  pub usual_shown : (s : List ℕ) (row j : ℕ) → Octets s → row_byte s o row j ≡ byte_at s (row + j)
  usual_shown s row j bytes = held_shown s o row j bytes ∙ usual_as_is (byte_at s (row + byte_of o (8 * j))) ∙ ap (λ (k : ℕ). byte_at s (row + k)) (usual_held j)

  -- "A set bit (top bit leftmost) at row r, column c", as document 01 reads it
  pub usual_bit : (s : List ℕ) (row c : ℕ) → Octets s → bit_at s o row c ≡ column (byte_at s (row + c / 8)) (c % 8)
  usual_bit s row c bytes = bit_by_byte s o row c ∙ ap (λ (b : ℕ). column b (c % 8)) (usual_shown s row (c / 8) bytes)

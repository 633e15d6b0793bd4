use Prim.Native.Nat.{ℕ}
use mathlib.Core.Path.{◌≡◌}
use mathlib.Core.Bool.{false}
use mathlib.Core.List.{List}
use native.Mathlib.Omega.{arith}
use lib.ListN.{length}
use Rattle.bitmaps.specs.Place.{place_at}
use Rattle.bitmaps.specs.Paint.{painted}
use Rattle.bitmaps.specs.Rows.{column}
use Rattle.bitmaps.specs.Ink.{in_row, row_past}
use borrow.Author.Rules.{rules}
use Rattle.paint.proofs.columns.byte_columns.Statement.{statement}
use Rattle.paint.proofs.columns.byte_columns.Tie as tie

-- the scale is a number n that the compiler knows
module _ (byte at stride scale n : ℕ) (old : List ℕ) (is : scale ≡ n) where
  room_for : row_past (column byte) (place_at at stride scale) 8 (length old) ≡ false → row_past (column byte) (place_at at stride n) 8 (length old) ≡ false
  room_for e = rw is at e

  drawn-by : (colour : ℕ) (new : List ℕ) → new ≡ painted (in_row (column byte) (place_at at stride n) 8) colour old
      → new ≡ painted (in_row (column byte) (place_at at stride scale) 8) colour old
  drawn-by colour new e = rw is e

pub byte_columns_spec : {M : Type 1} → statement M
byte_columns_spec =
    tie.close
    (tie.spec
    (λ c κs. (omega arith, search room_for))  -- bit_blocks-requires
    (λ c κs. (omega arith, search room_for))  -- bit_blocks-requires-2
    (λ c κs. (omega arith, search room_for))  -- bit_blocks-requires-3
    (λ c κs. (omega arith, search room_for))  -- bit_blocks-requires-4
    (λ c κs. (omega arith, search room_for))  -- bit_blocks-requires-5
    (λ c κs. (omega arith, search room_for))  -- bit_blocks-requires-6
    (λ c κs. (omega arith, search room_for))  -- bit_blocks-requires-7
    (λ c κs. (omega arith, search room_for))  -- bit_blocks-requires-8
    (λ c κs. search rules)  -- run_bars-requires
    (λ c. search rules)  -- same-length
    (λ c. search drawn-by)  -- returns
    (λ c. search rules)  -- same-length-2
    (λ c. search drawn-by)  -- returns-2
    (λ c. search rules)  -- same-length-3
    (λ c. search drawn-by)  -- returns-3
    (λ c. search rules)  -- same-length-4
    (λ c. search drawn-by)  -- returns-4
    (λ c. search rules)  -- same-length-5
    (λ c. search drawn-by)  -- returns-5
    (λ c. search rules)  -- same-length-6
    (λ c. search drawn-by)  -- returns-6
    (λ c. search rules)  -- same-length-7
    (λ c. search drawn-by)  -- returns-7
    (λ c. search rules)  -- same-length-8
    (λ c. search drawn-by)  -- returns-8
    (λ c. search rules)  -- same-length-9
    (λ c. search rules))  -- returns-9

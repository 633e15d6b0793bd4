-- A set bit passes the room where its block's last pixel does, and no bit does where the last column's block fits.
use Prim.Native.Nat.{◌+◌, ◌-◌, ◌*◌, ◌≤◌}
use native.Mathlib.Omega.{arith}
use Rattle.bitmaps.specs.Place.{place_at}
use Rattle.bitmaps.specs.Units.{bit_at}
use Rattle.outcome.proofs.Sizes.{within}
use Rattle.outcome.proofs.Corner.{row_fits}
use Rattle.outcome.proofs.RowSearch.{RowClear, row_clear_first, row_clear_next, row_clear_all, column_past}
use Rattle.outcome.proofs.past.row_past.Statement.{statement}
use Rattle.outcome.proofs.past.row_past.Tie as tie

abbrev invariant-loop-c : tie.invariant-loop-c
invariant-loop-c s order first row at columns room stride scale side down count c₀ c = RowClear (bit_at s order (first + row)) (place_at at stride scale) columns room c

abbrev decreases-loop-c : tie.decreases-loop-c
decreases-loop-c s order first row at columns room stride scale side down count c₀ c = columns - c

-- the places of a block's last line and of a column stay small

sizes : (c : tie.Start invariant-loop-c decreases-loop-c) → ((c.args.scale - 1) * c.args.stride ≤ 255 * 65535) × (c.args.columns * c.args.scale ≤ 4294967295 * 255)
sizes c = (within _ 255 _ 65535 (omega arith) (omega arith), within _ 4294967295 _ 255 (omega arith) (omega arith))

column-size : (c : tie.At-loop-c invariant-loop-c decreases-loop-c) → c.loop-c.c * c.before.before.before.args.scale ≤ 4294967295 * 255
column-size c = within _ 4294967295 _ 255 (omega arith) (omega arith)

pub row_past_spec : {M : Type 1} → statement M
row_past_spec =
    tie.close
    (tie.spec
    invariant-loop-c
    decreases-loop-c
    (λ c. omega arith)  -- sub-down
    (λ c. omega (arith, sizes (search)))  -- mul-down
    (λ c. omega (arith, sizes (search)))  -- add-if1
    (λ c. omega (arith, sizes (search)))  -- mul-if1
    (λ c. omega (arith, sizes (search)))  -- add-if1-2
    (λ c. search row_fits)  -- returns
    (λ c. search row_clear_first)  -- loop-holds
    (λ c κs. (omega arith, omega arith))  -- bit_at-requires
    (λ c. omega (arith, sizes (search), column-size (search)))  -- mul-if2
    (λ c. omega (arith, sizes (search), column-size (search)))  -- add-if2
    (λ c. omega (arith, sizes (search), column-size (search)))  -- add-if2-2
    (λ c. omega (arith, sizes (search), column-size (search)))  -- add-if2-3
    (λ c. search column_past)  -- returns-2
    (λ c. omega arith)  -- add-c
    (λ c. omega arith)  -- loop-less
    (λ c. search row_clear_next)  -- loop-again
    (λ c. search row_clear_all))  -- returns-3

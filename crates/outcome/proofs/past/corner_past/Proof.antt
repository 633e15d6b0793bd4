-- The last row's last block lies farthest: one comparison tells whether all would fit.
use Prim.Native.Nat.{◌-◌, ◌*◌, ◌≤◌}
use native.Mathlib.Omega.{arith}
use Rattle.outcome.proofs.Sizes.{within, row_small}
use Rattle.outcome.proofs.Corner.{corner_is, no_row_past, no_column_past, no_block_past}
use borrow.Author.Rules.{rules}
use Rattle.outcome.proofs.past.corner_past.Statement.{statement}
use Rattle.outcome.proofs.past.corner_past.Tie as tie

-- the place of the last row, of a block's last line and of the last column stay small
sizes : (c : tie.Start) → ((c.args.n - 1) * c.args.stride ≤ 65535 * 65535)
    × ((c.args.n - 1) * c.args.stride * c.args.scale ≤ 65535 * 65535 * 255)
    × ((c.args.scale - 1) * c.args.stride ≤ 255 * 65535)
    × (c.args.columns * c.args.scale ≤ 4294967295 * 255)
sizes c =
    let (line, place) = row_small (c.args.n - 1) c.args.stride c.args.scale (omega arith) (omega arith) (omega arith) in
    (line, place, within _ 255 _ 65535 (omega arith) (omega arith), within _ 4294967295 _ 255 (omega arith) (omega arith))

pub corner_past_spec : {M : Type 1} → statement M
corner_past_spec =
    tie.close
    (tie.spec
    (λ c. search no_row_past)  -- returns
    (λ c. search no_column_past)  -- returns-2
    (λ c. search no_block_past)  -- returns-3
    (λ c κs. search rules)  -- room_from-requires
    (λ c. search rules)  -- sub-result
    (λ c. omega (arith, sizes (search)))  -- mul-result
    (λ c. omega (arith, sizes (search)))  -- mul-result-2
    (λ c. search rules)  -- sub-result-2
    (λ c. omega (arith, sizes (search)))  -- mul-result-3
    (λ c. omega (arith, sizes (search)))  -- add-result
    (λ c. omega (arith, sizes (search)))  -- mul-result-4
    (λ c. omega (arith, sizes (search)))  -- add-result-2
    (λ c. search corner_is))  -- returns-4

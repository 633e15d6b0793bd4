-- The rows are searched one by one, in the room from p on; row r begins r steps and r scaled lines on.
use Prim.Native.Nat.{◌-◌, ◌*◌, ◌≤◌}
use native.Mathlib.Omega.{arith}
use Rattle.outcome.proofs.Sizes.{within}
use Rattle.outcome.proofs.Corner.{no_block_past}
use Rattle.outcome.proofs.RowSearch.{Clear, clear_first, clear_next, clear_all, row_found}
use borrow.Author.Rules.{rules}
use Rattle.outcome.proofs.past.rows_past.Statement.{statement}
use Rattle.outcome.proofs.past.rows_past.Tie as tie

abbrev invariant-loop-r : tie.invariant-loop-r
invariant-loop-r s order first step columns n len p stride scale room r₀ r = Clear s order first step columns n room stride scale r

abbrev decreases-loop-r : tie.decreases-loop-r
decreases-loop-r s order first step columns n len p stride scale room r₀ r = n - r

-- a row's bytes and its pixels begin near
row-sizes : (c : tie.At-loop-r invariant-loop-r decreases-loop-r) → (c.loop-r.r * c.before.before.before.before.args.step ≤ 65535 * 4294967295)
    × (c.loop-r.r * c.before.before.before.before.args.stride ≤ 65535 * 65535)
    × (c.loop-r.r * c.before.before.before.before.args.stride * c.before.before.before.before.args.scale ≤ 65535 * 65535 * 255)
row-sizes c =
    let few = c.loop-r.invariant.inside in (
      within _ 65535 _ 4294967295 (omega arith) (omega arith),
      within _ 65535 _ 65535 (omega arith) (omega arith),
      within _ (65535 * 65535) _ 255 (within _ 65535 _ 65535 (omega arith) (omega arith)) (omega arith),
    )

pub rows_past_spec : {M : Type 1} → statement M
rows_past_spec =
    tie.close
    (tie.spec
    invariant-loop-r
    decreases-loop-r
    (λ c. search no_block_past)  -- returns
    (λ c κs. search rules)  -- room_from-requires
    (λ c. search clear_first)  -- loop-holds
    (λ c. omega (arith, row-sizes (search)))  -- mul-row-past
    (λ c. omega (arith, row-sizes (search)))  -- mul-row-past-2
    (λ c. omega (arith, row-sizes (search)))  -- mul-row-past-3
    (λ c κs. (omega arith, omega (arith, row-sizes (search)), omega (arith, row-sizes (search))))  -- row_past-requires
    (λ c. search row_found)  -- returns-2
    (λ c. omega arith)  -- add-r
    (λ c. omega arith)  -- loop-less
    (λ c. search clear_next)  -- loop-again
    (λ c. search clear_all))  -- returns-3

use Prim.Native.Nat.{◌-◌}
use native.Mathlib.Omega.{arith}
use lib.ListN.{length}
use Rattle.bitmaps.proofs.SetBits.{blank_below, blank_short, blank_fits}
use Rattle.paint.proofs.Bars.{Left, all_left, none_left, run_some, run_below, run_short, run_fits, run_room, run_nearer, run_less, run_place_fits, run_times_fits, run_long_fits, run_end_fits}
use Rattle.paint.proofs.columns.run_bars.Statement.{statement}
use Rattle.paint.proofs.columns.run_bars.Tie as tie

abbrev invariant-loop-left : tie.invariant-loop-left
invariant-loop-left buf₀ byte at stride scale colour side left₀ next₀ buf left next = Left byte at stride scale colour buf₀ buf left next

abbrev decreases-loop-left : tie.decreases-loop-left
decreases-loop-left buf₀ byte at stride scale colour side left₀ next₀ buf left next = length buf₀ - next

pub run_bars_spec : {M : Type 1} → statement M
run_bars_spec =
    tie.close
    (tie.spec
    invariant-loop-left
    decreases-loop-left
    (λ c. search all_left)  -- loop-holds
    (λ c. search blank_short)  -- cast-top
    (λ c. search blank_below)  -- shl-top
    (λ c. omega arith)  -- sub-run
    (λ c. search blank_fits)  -- cast-here
    (λ c. search run_times_fits)  -- mul-here
    (λ c. search run_place_fits)  -- add-here
    (λ c. search run_fits)  -- cast-long
    (λ c. search run_long_fits)  -- mul-long
    (λ c κs. search run_room)  -- bar-requires
    (λ c. search run_end_fits)  -- add-next
    (λ c. search run_some)  -- sub-left
    (λ c. search run_short)  -- cast-left
    (λ c. search run_below)  -- shl-left
    (λ c. search run_nearer)  -- loop-less
    (λ c. search run_less)  -- loop-again
    (λ c. omega arith)  -- same-length
    (λ c. search none_left))  -- returns

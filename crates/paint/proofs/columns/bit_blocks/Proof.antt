use native.Mathlib.Omega.{arith}
use Rattle.bitmaps.proofs.SetBits.{blank_below, blank_short, blank_fits, bit_within, bit_falls}
use Rattle.paint.proofs.Bars.{Left, all_left, none_left, bit_room, bit_fits, bit_times_fits, bit_less}
use Rattle.paint.proofs.columns.bit_blocks.Statement.{statement}
use Rattle.paint.proofs.columns.bit_blocks.Tie as tie

abbrev invariant-loop-left : tie.invariant-loop-left
invariant-loop-left buf₀ byte at stride scale colour side left₀ buf left = Left byte at stride scale colour buf₀ buf left at

abbrev decreases-loop-left : tie.decreases-loop-left
decreases-loop-left buf₀ byte at stride scale colour side left₀ buf left = left

pub bit_blocks_spec : {M : Type 1} → statement M
bit_blocks_spec =
    tie.close
    (tie.spec
    invariant-loop-left
    decreases-loop-left
    (λ c. search all_left)  -- loop-holds
    (λ c. search blank_fits)  -- cast-bar
    (λ c. search bit_times_fits)  -- mul-bar
    (λ c. search bit_fits)  -- add-bar
    (λ c κs. search bit_room)  -- bar-requires
    (λ c. search blank_short)  -- cast-left
    (λ c. search blank_below)  -- shr-left
    (λ c. search bit_within)  -- sub-left
    (λ c. search bit_falls)  -- loop-less
    (λ c. search bit_less)  -- loop-again
    (λ c. omega arith)  -- same-length
    (λ c. search none_left))  -- returns

use native.Mathlib.Omega.{arith}
use Rattle.bitmaps.proofs.SetBits.{blank_below, blank_short, blank_fits, bit_within, bit_falls}
use Rattle.unpack.proofs.ByteBits.{Left, all_left, none_left, bit_fits, bit_room, bit_stored}
use Rattle.unpack.proofs.unpack_byte.Statement.{statement}
use Rattle.unpack.proofs.unpack_byte.Tie as tie

abbrev invariant-loop-left : tie.invariant-loop-left
invariant-loop-left buf₀ byte at left₀ buf left = Left byte at buf₀ buf left

abbrev decreases-loop-left : tie.decreases-loop-left
decreases-loop-left buf₀ byte at left₀ buf left = left

pub unpack_byte_spec : {M : Type 1} → statement M
unpack_byte_spec =
    tie.close
    (tie.spec
    invariant-loop-left
    decreases-loop-left
    (λ c. search all_left)  -- loop-holds
    (λ c. search blank_fits)  -- cast-buf
    (λ c. search bit_fits)  -- add-buf
    (λ c. search bit_room)  -- slice-write-buf
    (λ c. search blank_short)  -- cast-left
    (λ c. search blank_below)  -- shr-left
    (λ c. search bit_within)  -- sub-left
    (λ c. search bit_falls)  -- loop-less
    (λ c. search bit_stored)  -- loop-again
    (λ c. omega arith)  -- same-length
    (λ c. search none_left))  -- returns

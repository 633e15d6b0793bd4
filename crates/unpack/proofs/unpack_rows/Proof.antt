use Prim.Native.Nat.{◌-◌}
use native.Mathlib.Omega.{arith}
use Rattle.reads.specs.Num.{Octets}
use Rattle.reads.proofs.Places.{known}
use Rattle.bitmaps.specs.Unpack.{whole_columns}
use Rattle.bitmaps.proofs.Strips.{Stripped, no_strip, strip_in, strip_fits}
use Rattle.unpack.proofs.WholeStrips.{whole_rows, whole_room, whole_more}
use borrow.Author.Rules.{rules}
use Rattle.unpack.proofs.unpack_rows.Statement.{statement}
use Rattle.unpack.proofs.unpack_rows.Tie as tie

abbrev invariant-loop-j : tie.invariant-loop-j
invariant-loop-j s order first step width n buf₀ stride count j₀ buf j = Stripped s order first step stride 1 (whole_columns width) n 1 buf₀ buf j

abbrev decreases-loop-j : tie.decreases-loop-j
decreases-loop-j s order first step width n buf₀ stride count j₀ buf j = count - j

bytes : (c : tie.After-shared_slice_known-1 invariant-loop-j decreases-loop-j) → Octets c.before.args.s.now
bytes c = record { below = λ i. (c.shared_slice_known-1.given i).fits }

pub unpack_rows_spec : {M : Type 1} → statement M
unpack_rows_spec =
    tie.close
    (tie.spec
    invariant-loop-j
    decreases-loop-j
    (λ c κs. search rules)  -- row_bytes-requires
    (λ c. search rules)  -- cast-count
    (λ c. search no_strip)  -- loop-holds
    (λ c κs. search rules)  -- held_byte-requires
    (λ c. search strip_fits)  -- add-strip
    (λ c. omega arith)  -- mul-strip
    (λ c κs. ((omega arith, search strip_in), search (whole_room, bytes (known (tie.After-shared_slice_known-1 invariant-loop-j decreases-loop-j) (search)))))  -- strip-requires
    (λ c. omega arith)  -- add-j
    (λ c. omega arith)  -- loop-less
    (λ c. search (whole_more, bytes (known (tie.After-shared_slice_known-1 invariant-loop-j decreases-loop-j) (search))))  -- loop-again
    (λ c. omega arith)  -- same-length
    (λ c. search whole_rows))  -- returns

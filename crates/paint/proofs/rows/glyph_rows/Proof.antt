use Prim.Native.Nat.{◌-◌}
use native.Mathlib.Omega.{arith}
use Rattle.reads.specs.Num.{Octets}
use Rattle.bitmaps.proofs.Strips.{Stripped, no_strip, strip_in, strip_fits, strip_room, strip_more, all_strips}
use Rattle.reads.proofs.Places.{known}
use Rattle.paint.proofs.StripPlaces.{strip_begins, strips_end, some_columns, strip_near, strip_place_fits}
use borrow.Author.Rules.{rules}
use Rattle.paint.proofs.rows.glyph_rows.Statement.{statement}
use Rattle.paint.proofs.rows.glyph_rows.Tie as tie

abbrev invariant-loop-j : tie.invariant-loop-j
invariant-loop-j s order first step width n buf₀ stride scale colour columns count j₀ buf j = Stripped s order first step stride scale width n colour buf₀ buf j

abbrev decreases-loop-j : tie.decreases-loop-j
decreases-loop-j s order first step width n buf₀ stride scale colour columns count j₀ buf j = count - j

bytes : (c : tie.After-shared_slice_known-1 invariant-loop-j decreases-loop-j) → Octets c.before.args.s.now
bytes c = record { below = λ i. (c.shared_slice_known-1.given i).fits }

pub glyph_rows_spec : {M : Type 1} → statement M
glyph_rows_spec =
    tie.close
    (tie.spec
    invariant-loop-j
    decreases-loop-j
    (λ c κs. search rules)  -- row_bytes-requires
    (λ c. search rules)  -- cast-count
    (λ c. search no_strip)  -- loop-holds
    (λ c. omega arith)  -- mul-c
    (λ c κs. search rules)  -- held_byte-requires
    (λ c. search strip_fits)  -- add-strip
    (λ c. omega arith)  -- sub-strip
    (λ c. search strip_place_fits)  -- mul-strip
    (λ c κs. (
      (search rules, search some_columns, search strip_near, search strip_in),
      search (strip_room, strip_begins, bytes (known (tie.After-shared_slice_known-1 invariant-loop-j decreases-loop-j) (search))),
    ))  -- strip-requires
    (λ c. omega arith)  -- add-j
    (λ c. omega arith)  -- loop-less
    (λ c.
    let so_far = (known (tie.At-loop-j invariant-loop-j decreases-loop-j) (search)).loop-j.invariant in
    let held = (known (tie.After-held_byte invariant-loop-j decreases-loop-j) (search)).held_byte.ensures in
    let octets = bytes (known (tie.After-shared_slice_known-1 invariant-loop-j decreases-loop-j) (search)) in
    search (strip_more, strip_begins, so_far, held, octets))  -- loop-again
    (λ c. omega arith)  -- same-length
    (λ c. search (all_strips, strips_end)))  -- returns

use Prim.Native.Nat.{ℕ, ◌*◌, ◌≤◌}
use mathlib.Core.Path.{◌≡◌, sym, ap, ◌∙◌}
use mathlib.Core.List.{List}
use lib.ListN.{length, get_or-eq_default}
use Rattle.reads.specs.Num.{Octets}
use Rattle.reads.proofs.Places.{known}
use Rattle.bitmaps.specs.Units.{byte_of, row_byte, shown_byte}
use Rattle.bitmaps.specs.declared.Order.{Order}
use Rattle.bitmaps.proofs.ShownBytes.{held_read, blank_shown}
use borrow.Author.Rules.{rules}
use Rattle.bitmaps.proofs.units.read_byte.Statement.{statement}
use Rattle.bitmaps.proofs.units.read_byte.Tie as tie

past_end : (row : List ℕ) (o : Order) (j k : ℕ) → Octets row → k ≡ byte_of o (8 * j) → length row ≤ k → 0 ≡ row_byte row o 0 j
past_end row o j k bytes held h = held_read row o j k 0 bytes held (sym (ap (shown_byte o) (get_or-eq_default row 0 h) ∙ blank_shown o))

bytes : (c : tie.After-shared_slice_known-1) → Octets c.before.args.row.now
bytes c = record { below = λ i. (c.shared_slice_known-1.given i).fits }

pub read_byte_spec : {M : Type 1} → statement M
read_byte_spec =
    tie.close
    (tie.spec
    (λ c κs. search rules)  -- held_byte-requires
    (λ c. search (past_end, bytes (known tie.After-shared_slice_known-1 (search))))  -- returns
    (λ c. search rules)  -- shared-slice-read-shown
    (λ c κs. search rules)  -- shown-requires
    (λ c. search (held_read, bytes (known tie.After-shared_slice_known-1 (search)))))  -- returns-2

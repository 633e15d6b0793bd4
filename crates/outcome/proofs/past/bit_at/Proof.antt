use Rattle.reads.specs.Num.{Octets}
use Rattle.reads.proofs.Places.{known}
use Rattle.outcome.proofs.RowSearch.{byte_near, bit_read}
use borrow.Author.Rules.{rules}
use Rattle.outcome.proofs.past.bit_at.Statement.{statement}
use Rattle.outcome.proofs.past.bit_at.Tie as tie

bytes : (c : tie.After-shared_slice_known-1) → Octets c.before.args.s.now
bytes c = record { below = λ i. (c.shared_slice_known-1.given i).fits }

pub bit_at_spec : {M : Type 1} → statement M
bit_at_spec =
    tie.close
    (tie.spec
    (λ c κs. search rules)  -- held_byte-requires
    (λ c. search byte_near)  -- add-byte-at
    (λ c κs. search rules)  -- byte_at-requires
    (λ c κs. search rules)  -- shown-requires
    (λ c κs. search rules)  -- bit_of-requires
    (λ c. search (bit_read, bytes (known tie.After-shared_slice_known-1 (search)))))  -- returns

use Rattle.reads.specs.Num.{Octets}
use Rattle.reads.proofs.Places.{known}
use Rattle.why.proofs.SomeBit.{no_pixel, start_fits, pixel_searched}
use borrow.Author.Rules.{rules}
use Rattle.why.proofs.reasons.pixel_past.Statement.{statement}
use Rattle.why.proofs.reasons.pixel_past.Tie as tie

bytes : (c : tie.After-shared_slice_known-1) → Octets c.before.args.s.now
bytes c = record { below = λ i. (c.shared_slice_known-1.given i).fits }

pub pixel_past_spec : {M : Type 1} → statement M
pixel_past_spec =
    tie.close
    (tie.spec
    (λ c. search no_pixel)  -- returns
    (λ c κs. search rules)  -- offset_of-requires
    (λ c κs. search rules)  -- row_stride-requires
    (λ c. search rules)  -- cast-from
    (λ c. search start_fits)  -- add-from
    (λ c κs. search rules)  -- order_of-requires
    (λ c κs. search rules)  -- rows_past-requires
    (λ c. search (pixel_searched, bytes (known tie.After-shared_slice_known-1 (search)))))  -- returns-2

use Rattle.why.proofs.Ordered.{no_bitmap_lem, bit_order, by_rows}
use borrow.Author.Rules.{rules}
use Rattle.why.proofs.reasons.placed_reason.Statement.{statement}
use Rattle.why.proofs.reasons.placed_reason.Tie as tie

pub placed_reason_spec : {M : Type 1} → statement M
placed_reason_spec =
    tie.close
    (tie.spec
    (λ c κs. search rules)  -- no_bitmap-requires
    (λ c. search no_bitmap_lem)  -- returns
    (λ c κs. search rules)  -- unreadable-requires
    (λ c. search bit_order)  -- returns-2
    (λ c κs. search rules)  -- place_of-requires
    (λ c κs. search rules)  -- rows_reason-requires
    (λ c. search by_rows))  -- returns-3

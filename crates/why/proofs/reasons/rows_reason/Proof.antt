use Rattle.why.proofs.Ordered.{bitmap_short, rows_there, buffer_short, rows_cut, all_there, is_drawn, is_blank}
use borrow.Author.Rules.{rules}
use Rattle.why.proofs.reasons.rows_reason.Statement.{statement}
use Rattle.why.proofs.reasons.rows_reason.Tie as tie

pub rows_reason_spec : {M : Type 1} → statement M
rows_reason_spec =
    tie.close
    (tie.spec
    (λ c κs. search rules)  -- rows_drawn-requires
    (λ c κs. search rules)  -- rows_lacking-requires
    (λ c. search bitmap_short)  -- returns
    (λ c κs. search rows_there)  -- pixel_past-requires
    (λ c. search buffer_short)  -- returns-2
    (λ c. search rules)  -- sub
    (λ c. search rows_cut)  -- returns-3
    (λ c κs. search all_there)  -- some_bit-requires
    (λ c. search is_drawn)  -- returns-4
    (λ c. search is_blank))  -- returns-5

use Rattle.why.proofs.Ordered.{above_codes, first_byte, second_byte_lem, empty_entry}
use borrow.Author.Rules.{rules}
use Rattle.why.proofs.reasons.code_reason.Statement.{statement}
use Rattle.why.proofs.reasons.code_reason.Tie as tie

pub code_reason_spec : {M : Type 1} → statement M
code_reason_spec =
    tie.close
    (tie.spec
    (λ c. search above_codes)  -- returns
    (λ c κs. search rules)  -- first_outside-requires
    (λ c. search first_byte)  -- returns-2
    (λ c κs. search rules)  -- second_outside-requires
    (λ c. search second_byte_lem)  -- returns-3
    (λ c. search empty_entry))  -- returns-4

use Rattle.lookup.proofs.Slots.{first_under, first_over, second_under, second_over, row_fits, entry_fits, bytes_at_lem}
use borrow.Author.Rules.{rules}
use Rattle.lookup.proofs.slot_bytes.Statement.{statement}
use Rattle.lookup.proofs.slot_bytes.Tie as tie

pub slot_bytes_spec : {M : Type 1} → statement M
slot_bytes_spec =
    tie.close
    (tie.spec
    (λ c. search rules)  -- cast-low2
    (λ c. search rules)  -- cast-high2
    (λ c. search rules)  -- cast-low1
    (λ c. search rules)  -- cast-high1
    (λ c. search first_under)  -- returns
    (λ c. search first_over)  -- returns-2
    (λ c. search second_under)  -- returns-3
    (λ c. search second_over)  -- returns-4
    (λ c. search rules)  -- sub-t10
    (λ c. search rules)  -- add-t11
    (λ c. search row_fits)  -- mul-t12
    (λ c. search entry_fits)  -- add-t14
    (λ c. search bytes_at_lem))  -- returns-5

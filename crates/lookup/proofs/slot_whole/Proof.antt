use Rattle.lookup.proofs.Slots.{whole_under, whole_over, whole_at}
use borrow.Author.Rules.{rules}
use Rattle.lookup.proofs.slot_whole.Statement.{statement}
use Rattle.lookup.proofs.slot_whole.Tie as tie

pub slot_whole_spec : {M : Type 1} → statement M
slot_whole_spec =
    tie.close
    (tie.spec
    (λ c. search rules)  -- cast-low2
    (λ c. search rules)  -- cast-high2
    (λ c. search whole_under)  -- returns
    (λ c. search whole_over)  -- returns-2
    (λ c. search whole_at))  -- returns-3

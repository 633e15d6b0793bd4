use Rattle.lookup.proofs.Slots.{slot_far, slot_one, slot_two}
use borrow.Author.Rules.{rules}
use Rattle.lookup.proofs.slot_of.Statement.{statement}
use Rattle.lookup.proofs.slot_of.Tie as tie

pub slot_of_spec : {M : Type 1} → statement M
slot_of_spec =
    tie.close
    (tie.spec
    (λ c. search slot_far)  -- returns
    (λ c κs. search rules)  -- one_byte-requires
    (λ c κs. search rules)  -- slot_whole-requires
    (λ c. search slot_one)  -- returns-2
    (λ c κs. search rules)  -- slot_bytes-requires
    (λ c. search slot_two))  -- returns-3

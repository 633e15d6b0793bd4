use Rattle.lookup.proofs.Slots.{range_one, range_full, range_two}
use borrow.Author.Rules.{rules}
use Rattle.lookup.proofs.code_range.Statement.{statement}
use Rattle.lookup.proofs.code_range.Tie as tie

pub code_range_spec : {M : Type 1} → statement M
code_range_spec =
    tie.close
    (tie.spec
    (λ c. search rules)  -- cast-high1
    (λ c κs. search rules)  -- one_byte-requires
    (λ c. search rules)  -- cast-t5
    (λ c. search rules)  -- cast-t6
    (λ c. search rules)  -- add-t7
    (λ c. search range_one)  -- returns
    (λ c. search rules)  -- cast-low
    (λ c. search rules)  -- mul-low
    (λ c. search range_full)  -- returns-2
    (λ c. search rules)  -- mul-t8
    (λ c. search rules)  -- add-t10
    (λ c. search range_two))  -- returns-3

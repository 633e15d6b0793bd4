use borrow.Author.Rules.{rules}
use Rattle.vet.proofs.Faults.{record_13, record_11, record_prop, record_code, record_passes}
use Rattle.vet.proofs.vet_record.Statement.{statement}
use Rattle.vet.proofs.vet_record.Tie as tie

pub vet_record_spec : {M : Type 1} → statement M
vet_record_spec =
    tie.close
    (tie.spec
    (λ c κs. search rules)  -- unreadable-requires
    (λ c. search record_13)  -- returns
    (λ c κs. search rules)  -- bounds_hold-requires
    (λ c κs. search rules)  -- first_prop-requires
    (λ c. search rules)  -- enum-known-number
    (λ c. search rules)  -- enum-told
    (λ c κs. search rules)  -- first_code-requires
    (λ c. search rules)  -- enum-known-number-2
    (λ c. search rules)  -- enum-told-2
    (λ c. search record_prop)  -- returns-2
    (λ c. search record_code)  -- returns-3
    (λ c. search record_passes)  -- returns-4
    (λ c. search record_11))  -- returns-5

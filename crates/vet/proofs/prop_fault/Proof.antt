use borrow.Author.Rules.{rules}
use Rattle.vet.proofs.Faults.{prop_found, prop_refused}
use Rattle.vet.proofs.prop_fault.Statement.{statement}
use Rattle.vet.proofs.prop_fault.Tie as tie

pub prop_fault_spec : {M : Type 1} → statement M
prop_fault_spec =
    tie.close
    (tie.spec
    (λ c κs. search rules)  -- prop_of-requires
    (λ c. search rules)  -- enum-told
    (λ c. search rules)  -- enum-known-r
    (λ c. search prop_found)  -- returns
    (λ c. search prop_refused))  -- returns-2

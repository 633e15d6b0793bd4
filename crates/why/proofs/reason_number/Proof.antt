use Rattle.why.proofs.Ordered.{of_reason}
use borrow.Author.Rules.{rules}
use Rattle.why.proofs.reason_number.Statement.{statement}
use Rattle.why.proofs.reason_number.Tie as tie

pub reason_number_spec : {M : Type 1} → statement M
reason_number_spec =
    tie.close
    (tie.spec
    (λ c. search rules)  -- enum-told
    (λ c. search rules)  -- enum-told-2
    (λ c. search rules)  -- enum-told-3
    (λ c. search rules)  -- enum-told-4
    (λ c. search rules)  -- enum-told-5
    (λ c. search rules)  -- enum-told-6
    (λ c. search rules)  -- enum-told-7
    (λ c. search rules)  -- enum-told-8
    (λ c. search rules)  -- enum-told-9
    (λ c. search rules)  -- enum-told-10
    (λ c. search rules)  -- enum-known-reason
    (λ c. search rules)  -- enum-told-11
    (λ c. search rules)  -- enum-told-12
    (λ c. search of_reason)  -- returns
    (λ c. search of_reason)  -- returns-2
    (λ c. search of_reason)  -- returns-3
    (λ c. search of_reason)  -- returns-4
    (λ c. search of_reason)  -- returns-5
    (λ c. search of_reason)  -- returns-6
    (λ c. search of_reason)  -- returns-7
    (λ c. search of_reason)  -- returns-8
    (λ c. search of_reason)  -- returns-9
    (λ c. search of_reason)  -- returns-10
    (λ c. search of_reason)  -- returns-11
    (λ c. search of_reason)  -- returns-12
    (λ c. search of_reason))  -- returns-13

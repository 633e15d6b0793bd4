use borrow.Author.Rules.{rules}
use Rattle.vet.proofs.Faults.{code_found, code_empty}
use Rattle.vet.proofs.code_fault.Statement.{statement}
use Rattle.vet.proofs.code_fault.Tie as tie

pub code_fault_spec : {M : Type 1} → statement M
code_fault_spec =
    tie.close
    (tie.spec
    (λ c κs. search rules)  -- glyph_of-requires
    (λ c. search rules)  -- enum-known-g
    (λ c κs. search rules)  -- glyph_fault-requires
    (λ c. search rules)  -- enum-told
    (λ c. search code_found)  -- returns
    (λ c. search code_empty))  -- returns-2

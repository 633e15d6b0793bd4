use borrow.Author.Rules.{rules}
use Rattle.vet.proofs.Faults.{font_vetted, font_refused}
use Rattle.vet.proofs.vet.Statement.{statement}
use Rattle.vet.proofs.vet.Tie as tie

pub vet_spec : {M : Type 1} → statement M
vet_spec =
    tie.close
    (tie.spec
    (λ c κs. search rules)  -- load_in-requires
    (λ c. search rules)  -- enum-known-rec
    (λ c κs. search rules)  -- vet_record-requires
    (λ c. search rules)  -- enum-known-r
    (λ c. search font_vetted)  -- returns
    (λ c. search font_refused))  -- returns-2

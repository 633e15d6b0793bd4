use borrow.Author.Rules.{rules}
use Rattle.vet.proofs.Faults.{no_bitmap_lem, rows_short_lem, named, nameless}
use Rattle.vet.proofs.box_fault.Statement.{statement}
use Rattle.vet.proofs.box_fault.Tie as tie

pub box_fault_spec : {M : Type 1} → statement M
box_fault_spec =
    tie.close
    (tie.spec
    (λ c κs. search rules)  -- no_bitmap-requires
    (λ c. search no_bitmap_lem)  -- returns
    (λ c κs. search rules)  -- rows_short-requires
    (λ c. search rows_short_lem)  -- returns-2
    (λ c κs. search rules)  -- name_of-requires
    (λ c. search rules)  -- enum-told
    (λ c. search rules)  -- enum-known-r
    (λ c. search named)  -- returns-3
    (λ c. search nameless))  -- returns-4

use borrow.Author.Rules.{rules}
use Rattle.vet.proofs.Faults.{glyph_placed, glyph_refused}
use Rattle.vet.proofs.glyph_fault.Statement.{statement}
use Rattle.vet.proofs.glyph_fault.Tie as tie

pub glyph_fault_spec : {M : Type 1} → statement M
glyph_fault_spec =
    tie.close
    (tie.spec
    (λ c κs. search rules)  -- info_of-requires
    (λ c. search rules)  -- enum-known-i
    (λ c κs. search rules)  -- box_fault-requires
    (λ c. search rules)  -- enum-known-r
    (λ c. search glyph_placed)  -- returns
    (λ c. search glyph_refused))  -- returns-2

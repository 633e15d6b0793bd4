use borrow.Author.Rules.{rules}
use Rattle.tables.proofs.Reading.{accelerators_past, accelerators_inside}
use Rattle.tables.proofs.accelerator_table.accelerators_at.Statement.{statement}
use Rattle.tables.proofs.accelerator_table.accelerators_at.Tie as tie

pub accelerators_at_spec : {M : Type 1} → statement M
accelerators_at_spec =
    tie.close
    (tie.spec
    (λ c. search rules)  -- add-if1
    (λ c. search accelerators_past)  -- returns
    (λ c κs. search rules)  -- accelerators_table-requires
    (λ c. search accelerators_inside))  -- returns-2

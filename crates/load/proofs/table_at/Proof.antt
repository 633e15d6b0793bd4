use borrow.Author.Rules.{rules}
use Rattle.load.specs.Load.{table_at}
use Rattle.load.proofs.Loading.{of_kind, of_no_kind}
use Rattle.load.proofs.table_at.Statement.{statement}
use Rattle.load.proofs.table_at.Tie as tie

pub table_at_spec : {M : Type 1} → statement M
unfolding table_at
table_at_spec =
    tie.close
    (tie.spec
    (λ c κs. search rules)  -- properties_at-requires
    (λ c. search of_kind)  -- returns
    (λ c κs. search rules)  -- accelerators_at-requires
    (λ c. search of_kind)  -- returns-2
    (λ c κs. search rules)  -- accelerators_at-requires-2
    (λ c. search of_kind)  -- returns-3
    (λ c κs. search rules)  -- metrics_at-requires
    (λ c. search of_kind)  -- returns-4
    (λ c κs. search rules)  -- bitmaps_at-requires
    (λ c. search of_kind)  -- returns-5
    (λ c κs. search rules)  -- codes_at-requires
    (λ c. search of_kind)  -- returns-6
    (λ c κs. search rules)  -- names_at-requires
    (λ c. search of_kind)  -- returns-7
    (λ c. search of_no_kind))  -- returns-8

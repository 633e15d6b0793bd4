use borrow.Author.Rules.{rules}
use Rattle.tables.proofs.Sizes.{codes_few, codes_small}
use Rattle.tables.proofs.Together.{product_is}
use Rattle.tables.proofs.code_table.entry_count.Statement.{statement}
use Rattle.tables.proofs.code_table.entry_count.Tie as tie

pub entry_count_spec : {M : Type 1} → statement M
entry_count_spec =
    tie.close
    (tie.spec
    (λ c κs. search rules)  -- span_of-requires
    (λ c κs. search rules)  -- span_of-requires-2
    (λ c. search codes_small)  -- mul-result
    (λ c. search (product_is, codes_few)))  -- returns

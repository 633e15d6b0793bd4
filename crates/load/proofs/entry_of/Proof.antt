use borrow.Author.Rules.{rules}
use Rattle.load.proofs.Loading.{offset_past, table_added}
use Rattle.load.proofs.entry_of.Statement.{statement}
use Rattle.load.proofs.entry_of.Tie as tie

pub entry_of_spec : {M : Type 1} → statement M
entry_of_spec =
    tie.close
    (tie.spec
    (λ c. search offset_past)  -- returns
    (λ c. search rules)  -- add-lesser-of
    (λ c κs. search rules)  -- lesser_of-requires
    (λ c κs. search rules)  -- table_in-requires
    (λ c κs. search rules)  -- add-requires
    (λ c. search table_added))  -- returns-2

use Rattle.paint.proofs.FirstColumns.{first_kept, all_kept}
use borrow.Author.Rules.{rules}
use Rattle.paint.proofs.columns.first_columns.Statement.{statement}
use Rattle.paint.proofs.columns.first_columns.Tie as tie

pub first_columns_spec : {M : Type 1} → statement M
first_columns_spec =
    tie.close
    (tie.spec
    (λ c. search rules)  -- cast-k
    (λ c. search rules)  -- sub-k
    (λ c. search rules)  -- cast-result
    (λ c. search rules)  -- shr-result
    (λ c. search rules)  -- cast-result-2
    (λ c. search rules)  -- shl-result
    (λ c. search first_kept)  -- returns
    (λ c. search all_kept))  -- returns-2

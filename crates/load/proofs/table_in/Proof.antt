use borrow.Author.Rules.{rules}
use Rattle.load.proofs.Loading.{format_refused, format_passed}
use Rattle.load.proofs.table_in.Statement.{statement}
use Rattle.load.proofs.table_in.Tie as tie

pub table_in_spec : {M : Type 1} → statement M
table_in_spec =
    tie.close
    (tie.spec
    (λ c κs. search rules)  -- format_refused-requires
    (λ c. search format_refused)  -- returns
    (λ c κs. search rules)  -- table_at-requires
    (λ c. search format_passed))  -- returns-2

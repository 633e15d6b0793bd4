-- Each subtraction is of what the tests before it left, so none wraps and all of them test the whole sum.
use Rattle.reads.proofs.Lies.{start_past, size_past, offset_left}
use borrow.Author.Rules.{rules}
use Rattle.reads.proofs.lies_in.Statement.{statement}
use Rattle.reads.proofs.lies_in.Tie as tie

pub lies_in_spec : {M : Type 1} → statement M
lies_in_spec =
    tie.close
    (tie.spec
    (λ c. search start_past)  -- returns
    (λ c. search size_past)  -- returns-2
    (λ c. search rules)  -- sub-result
    (λ c. search offset_left))  -- returns-3

use Rattle.reads.proofs.Digits.{digit_big, digit_little}
use borrow.Author.Rules.{rules}
use Rattle.reads.proofs.digit_at.Statement.{statement}
use Rattle.reads.proofs.digit_at.Tie as tie

pub digit_at_spec : {M : Type 1} → statement M
digit_at_spec =
    tie.close
    (tie.spec
    (λ c. search rules)  -- add-wide
    (λ c. search rules)  -- shared-slice-read-wide
    (λ c κs. search rules)  -- wide-requires
    (λ c. search rules)  -- sub-wide
    (λ c. search rules)  -- sub-wide-2
    (λ c. search rules)  -- add-wide-2
    (λ c. search rules)  -- shared-slice-read-wide-2
    (λ c κs. search rules)  -- wide-requires-2
    (λ c. search digit_big)  -- returns
    (λ c. search digit_little))  -- returns-2

use borrow.Author.Rules.{rules}
use Rattle.load.proofs.blanks.blank.Statement.{statement}
use Rattle.load.proofs.blanks.blank.Tie as tie

pub blank_spec : {M : Type 1} → statement M
blank_spec =
    tie.close
    (tie.spec
    (λ c κs. search rules)  -- no_accelerators-requires
    (λ c. rw c.no_accelerators-accel.ensures))  -- returns

use borrow.Author.Rules.{rules}
use Rattle.load.proofs.gather.nothing_yet.Statement.{statement}
use Rattle.load.proofs.gather.nothing_yet.Tie as tie

pub nothing_yet_spec : {M : Type 1} → statement M
nothing_yet_spec =
    tie.close
    (tie.spec
    (λ c κs. search rules)  -- blank-requires
    (λ c. rw c.blank-tables.ensures))  -- returns

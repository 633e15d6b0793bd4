use Rattle.utf8.proofs.CheckedText.{too_long, short_enough}
use borrow.Author.Rules.{rules}
use Rattle.utf8.proofs.whole.check.Statement.{statement}
use Rattle.utf8.proofs.whole.check.Tie as tie

pub check_spec : {M : Type 1} → statement M
check_spec =
    tie.close
    (tie.spec
    (λ c. search too_long)  -- returns
    (λ c κs. search rules)  -- walk-requires
    (λ c. search short_enough))  -- returns-2

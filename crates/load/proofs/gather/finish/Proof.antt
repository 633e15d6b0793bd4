use borrow.Author.Rules.{rules}
use Rattle.load.proofs.Loading.{all_there, one_missing}
use Rattle.load.proofs.gather.finish.Statement.{statement}
use Rattle.load.proofs.gather.finish.Tie as tie

pub finish_spec : {M : Type 1} → statement M
finish_spec =
    tie.close
    (tie.spec
    (λ c κs. search rules)  -- all_six-requires
    (λ c. search all_there)  -- returns
    (λ c. search one_missing))  -- returns-2

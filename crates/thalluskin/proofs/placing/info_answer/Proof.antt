use Rattle.thalluskin.specs.Placing.{info_answer}
use Rattle.thalluskin.proofs.Answers.{matched}
use borrow.Author.Rules.{rules}
use Rattle.thalluskin.proofs.placing.info_answer.Statement.{statement}
use Rattle.thalluskin.proofs.placing.info_answer.Tie as tie

pub info_answer_spec : {M : Type 1} → statement M
info_answer_spec =
    tie.close
    (tie.spec
    (λ c. search rules)  -- enum-known-prepared
    (λ c. search rules)  -- enum-known-prepared-2
    (λ c. search rules)  -- cast-t6
    (λ c κs. search rules)  -- no_info-requires
    (λ c κs. search rules)  -- no_supplier-requires
    (λ c. search (matched info_answer))  -- returns
    (λ c. search (matched info_answer, c.before.no_info.ensures, c.no_supplier.ensures)))  -- returns-2

use Rattle.thalluskin.specs.Reasons.{why_answer}
use Rattle.thalluskin.proofs.Answers.{matched}
use borrow.Author.Rules.{rules}
use Rattle.thalluskin.proofs.reasons.why_answer.Statement.{statement}
use Rattle.thalluskin.proofs.reasons.why_answer.Tie as tie

pub why_answer_spec : {M : Type 1} → statement M
why_answer_spec =
    tie.close
    (tie.spec
    (λ c. search rules)  -- enum-known-told
    (λ c κs. search rules)  -- reason_number-requires
    (λ c. search rules)  -- enum-known-told-2
    (λ c. search rules)  -- cast-t7
    (λ c κs. search rules)  -- no_supplier-requires
    (λ c. search (matched why_answer, c.reason_number.ensures))  -- returns
    (λ c. search (matched why_answer, c.no_supplier.ensures)))  -- returns-2

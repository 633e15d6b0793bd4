use Rattle.reads.proofs.Places.{known}
use Rattle.thalluskin.specs.Reasons.{why_answer}
use Rattle.thalluskin.proofs.Answers.{called}
use borrow.Author.Rules.{rules}
use Rattle.thalluskin.proofs.reasons.thalluskin_why.Statement.{statement}
use Rattle.thalluskin.proofs.reasons.thalluskin_why.Tie as tie

pub thalluskin_why_spec : {M : Type 1} → statement M
thalluskin_why_spec =
    tie.close
    (tie.spec
    (λ c κs. search rules)  -- mode_of-requires
    (λ c κs. search rules)  -- stride_of-requires
    (λ c κs. search rules)  -- why-requires
    (λ c κs. search rules)  -- why_answer-requires
    (λ c. search (called why_answer, ← (known tie.After-mode_of (search)).mode_of.ensures, ← (known tie.After-stride_of (search)).stride_of.ensures)))  -- returns

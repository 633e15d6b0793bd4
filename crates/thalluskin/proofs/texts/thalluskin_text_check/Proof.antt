use Rattle.reads.proofs.Places.{known}
use Rattle.thalluskin.specs.Texts.{text_answer}
use Rattle.thalluskin.proofs.Answers.{called}
use borrow.Author.Rules.{rules}
use Rattle.thalluskin.proofs.texts.thalluskin_text_check.Statement.{statement}
use Rattle.thalluskin.proofs.texts.thalluskin_text_check.Tie as tie

pub thalluskin_text_check_spec : {M : Type 1} → statement M
thalluskin_text_check_spec =
    tie.close
    (tie.spec
    (λ c κs. search rules)  -- mode_of-requires
    (λ c κs. search rules)  -- wrap_of-requires
    (λ c κs. search rules)  -- stride_of-requires
    (λ c κs. search rules)  -- text_check-requires
    (λ c κs. search rules)  -- text_answer-requires
    (λ c. search (called text_answer, ← (known tie.After-mode_of (search)).mode_of.ensures, ← (known tie.After-wrap_of (search)).wrap_of.ensures, ← (known tie.After-stride_of (search)).stride_of.ensures)))  -- returns

use Rattle.thalluskin.specs.Texts.{step_answer}
use Rattle.thalluskin.proofs.Answers.{call_matched}
use borrow.Author.Rules.{rules}
use Rattle.thalluskin.proofs.texts.thalluskin_utf8_step.Statement.{statement}
use Rattle.thalluskin.proofs.texts.thalluskin_utf8_step.Tie as tie

pub thalluskin_utf8_step_spec : {M : Type 1} → statement M
thalluskin_utf8_step_spec =
    tie.close
    (tie.spec
    (λ c κs. search rules)  -- step_at-requires
    (λ c. search rules)  -- enum-known-answer
    (λ c. search rules)  -- enum-told
    (λ c. search rules)  -- enum-known-answer-2
    (λ c. search rules)  -- cast-t9
    (λ c. search (call_matched step_answer))  -- returns
    (λ c. search (call_matched step_answer))  -- returns-2
    (λ c. search (call_matched step_answer)))  -- returns-3

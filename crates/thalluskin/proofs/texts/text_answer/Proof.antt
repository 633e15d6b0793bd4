use Rattle.thalluskin.specs.Texts.{text_answer}
use Rattle.thalluskin.proofs.Answers.{matched}
use borrow.Author.Rules.{rules}
use Rattle.thalluskin.proofs.texts.text_answer.Statement.{statement}
use Rattle.thalluskin.proofs.texts.text_answer.Tie as tie

pub text_answer_spec : {M : Type 1} → statement M
text_answer_spec =
    tie.close
    (tie.spec
    (λ c. search rules)  -- enum-known-drawn
    (λ c. search rules)  -- enum-known-drawn-2
    (λ c. search rules)  -- cast-t5
    (λ c. search (matched text_answer))  -- returns
    (λ c. search (matched text_answer)))  -- returns-2

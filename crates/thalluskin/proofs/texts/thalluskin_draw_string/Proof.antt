use Rattle.reads.proofs.Places.{known}
use Rattle.thalluskin.specs.Texts.{text_answer}
use Rattle.thalluskin.proofs.Answers.{called}
use borrow.Author.Rules.{rules}
use Rattle.thalluskin.proofs.texts.thalluskin_draw_string.Statement.{statement}
use Rattle.thalluskin.proofs.texts.thalluskin_draw_string.Tie as tie

pub thalluskin_draw_string_spec : {M : Type 1} → statement M
thalluskin_draw_string_spec =
    tie.close
    (tie.spec
    (λ c κs. search rules)  -- mode-of-requires
    (λ c κs. search rules)  -- wrap-of-requires
    (λ c κs. search rules)  -- stride-of-requires
    (λ c κs. search rules)  -- draw-string-requires
    (λ c κs. search rules)  -- text-answer-requires
    (λ c. search rules)  -- same-length
    (λ c. search (called text_answer, ← (known tie.After-mode-of (search)).Mode-of.ensures, ← (known tie.After-wrap-of (search)).wrap-of.ensures, ← (known tie.After-stride-of (search)).stride-of.ensures, ← (known tie.After-draw-string (search)).draw-string.ensures.0)))  -- returns

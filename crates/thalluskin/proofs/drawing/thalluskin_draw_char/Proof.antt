use Rattle.reads.proofs.Places.{known}
use Rattle.thalluskin.specs.Drawing.{char_answer}
use Rattle.thalluskin.proofs.Answers.{called}
use borrow.Author.Rules.{rules}
use Rattle.thalluskin.proofs.drawing.thalluskin_draw_char.Statement.{statement}
use Rattle.thalluskin.proofs.drawing.thalluskin_draw_char.Tie as tie

pub thalluskin_draw_char_spec : {M : Type 1} → statement M
thalluskin_draw_char_spec =
    tie.close
    (tie.spec
    (λ c κs. search rules)  -- mode_of-requires
    (λ c κs. search rules)  -- stride_of-requires
    (λ c κs. search rules)  -- draw_char-requires
    (λ c κs. search rules)  -- char_answer-requires
    (λ c. search rules)  -- same-length
    (λ c. search (called char_answer, ← (known tie.After-mode_of (search)).mode_of.ensures, ← (known tie.After-stride_of (search)).stride_of.ensures, ← (known tie.After-draw_char (search)).draw_char.ensures.0)))  -- returns

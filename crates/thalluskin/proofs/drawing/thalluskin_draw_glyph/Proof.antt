use Rattle.reads.proofs.Places.{known}
use Rattle.thalluskin.specs.Drawing.{rows_answer}
use Rattle.thalluskin.proofs.Answers.{called}
use borrow.Author.Rules.{rules}
use Rattle.thalluskin.proofs.drawing.thalluskin_draw_glyph.Statement.{statement}
use Rattle.thalluskin.proofs.drawing.thalluskin_draw_glyph.Tie as tie

pub thalluskin_draw_glyph_spec : {M : Type 1} → statement M
thalluskin_draw_glyph_spec =
    tie.close
    (tie.spec
    (λ c κs. search rules)  -- mode_of-requires
    (λ c κs. search rules)  -- stride_of-requires
    (λ c κs. search rules)  -- draw_glyph-requires
    (λ c κs. search rules)  -- rows_answer-requires
    (λ c. search rules)  -- same-length
    (λ c. search (called rows_answer, ← (known tie.After-mode_of (search)).mode_of.ensures, ← (known tie.After-stride_of (search)).stride_of.ensures, ← (known tie.After-draw_glyph (search)).draw_glyph.ensures.0)))  -- returns

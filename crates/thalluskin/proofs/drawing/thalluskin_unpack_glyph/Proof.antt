use Rattle.reads.proofs.Places.{known}
use Rattle.thalluskin.specs.Drawing.{unpack_answer}
use Rattle.thalluskin.proofs.Answers.{called}
use borrow.Author.Rules.{rules}
use Rattle.thalluskin.proofs.drawing.thalluskin_unpack_glyph.Statement.{statement}
use Rattle.thalluskin.proofs.drawing.thalluskin_unpack_glyph.Tie as tie

pub thalluskin_unpack_glyph_spec : {M : Type 1} → statement M
thalluskin_unpack_glyph_spec =
    tie.close
    (tie.spec
    (λ c κs. search rules)  -- mode_of-requires
    (λ c κs. search rules)  -- stride_of-requires
    (λ c κs. search rules)  -- unpack_glyph-requires
    (λ c κs. search rules)  -- unpack_answer-requires
    (λ c. search rules)  -- same-length
    (λ c. search (called unpack_answer, ← (known tie.After-mode_of (search)).mode_of.ensures, ← (known tie.After-stride_of (search)).stride_of.ensures, ← (known tie.After-unpack_glyph (search)).unpack_glyph.ensures.0)))  -- returns

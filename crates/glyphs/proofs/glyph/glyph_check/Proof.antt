use Rattle.glyphs.proofs.Tested.{stride_fits, scale_fits, glyph_drawn_lem, glyph_refused}
use borrow.Author.Rules.{rules}
use Rattle.glyphs.proofs.glyph.glyph_check.Statement.{statement}
use Rattle.glyphs.proofs.glyph.glyph_check.Tie as tie

pub glyph_check_spec : {M : Type 1} → statement M
glyph_check_spec =
    tie.close
    (tie.spec
    (λ c κs. search rules)  -- glyph_ready-requires
    (λ c. search rules)  -- enum-told
    (λ c. search stride_fits)  -- cast-glyph-drawn
    (λ c. search scale_fits)  -- cast-glyph-drawn-2
    (λ c κs. search rules)  -- glyph_drawn-requires
    (λ c. search rules)  -- enum-known-permit
    (λ c. search glyph_drawn_lem)  -- returns
    (λ c. search glyph_refused))  -- returns-2

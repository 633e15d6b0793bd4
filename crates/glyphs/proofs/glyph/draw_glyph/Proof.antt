use Rattle.glyphs.proofs.Tested.{stride_fits, scale_fits, glyph_drawn_lem, glyph_refused}
use borrow.Author.Rules.{rules}
use Rattle.glyphs.proofs.glyph.draw_glyph.Statement.{statement}
use Rattle.glyphs.proofs.glyph.draw_glyph.Tie as tie

pub draw_glyph_spec : {M : Type 1} → statement M
draw_glyph_spec =
    tie.close
    (tie.spec
    (λ c κs. search rules)  -- glyph_ready-requires
    (λ c. search rules)  -- enum-told
    (λ c. search stride_fits)  -- cast-show-glyph
    (λ c. search scale_fits)  -- cast-show-glyph-2
    (λ c κs. search rules)  -- show_glyph-requires
    (λ c. search rules)  -- enum-known-permit
    (λ c. search rules)  -- same-length
    (λ c. search glyph_drawn_lem)  -- returns
    (λ c. search glyph_refused))  -- returns-2

use Rattle.glyphs.proofs.Tested.{char_stride_fits, char_scale_fits, char_drawn, char_none}
use Rattle.glyphs.proofs.Leaves.{char_leaves_lem}
use borrow.Author.Rules.{rules}
use Rattle.glyphs.proofs.character.draw_char.Statement.{statement}
use Rattle.glyphs.proofs.character.draw_char.Tie as tie

pub draw_char_spec : {M : Type 1} → statement M
draw_char_spec =
    tie.close
    (tie.spec
    (λ c κs. search rules)  -- char_ready-requires
    (λ c. search rules)  -- enum-known-ready
    (λ c. search char_stride_fits)  -- cast-show-glyph
    (λ c. search char_scale_fits)  -- cast-show-glyph-2
    (λ c κs. search rules)  -- show_glyph-requires
    (λ c κs. search rules)  -- char_of-requires
    (λ c. search rules)  -- enum-known-ready-2
    (λ c. search rules)  -- same-length
    (λ c. search (char_drawn, char_leaves_lem))  -- returns
    (λ c. search char_none))  -- returns-2

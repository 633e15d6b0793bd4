use Rattle.glyphs.proofs.Tested.{drawn_none, drawn_there}
use borrow.Author.Rules.{rules}
use Rattle.glyphs.proofs.glyph.glyph_drawn.Statement.{statement}
use Rattle.glyphs.proofs.glyph.glyph_drawn.Tie as tie

pub glyph_drawn_spec : {M : Type 1} → statement M
glyph_drawn_spec =
    tie.close
    (tie.spec
    (λ c κs. search rules)  -- no_bitmap-requires
    (λ c. search drawn_none)  -- returns
    (λ c κs. search rules)  -- place_of-requires
    (λ c κs. search rules)  -- shown_at-requires
    (λ c. search drawn_there))  -- returns-2

use Rattle.glyphs.proofs.Far.{nothing_leaves}
use Rattle.glyphs.proofs.Tested.{drawn_none, drawn_there, leaves_there}
use borrow.Author.Rules.{rules}
use Rattle.glyphs.proofs.glyph.show_glyph.Statement.{statement}
use Rattle.glyphs.proofs.glyph.show_glyph.Tie as tie

pub show_glyph_spec : {M : Type 1} → statement M
show_glyph_spec =
    tie.close
    (tie.spec
    (λ c κs. search rules)  -- no_bitmap-requires
    (λ c. search (drawn_none, nothing_leaves))  -- returns
    (λ c κs. search rules)  -- place_of-requires
    (λ c κs. search rules)  -- show_at-requires
    (λ c. search rules)  -- same-length
    (λ c. search (drawn_there, leaves_there)))  -- returns-2

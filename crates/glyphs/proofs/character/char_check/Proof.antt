use Rattle.glyphs.proofs.Tested.{char_stride_fits, char_scale_fits, char_drawn, char_none}
use borrow.Author.Rules.{rules}
use Rattle.glyphs.proofs.character.char_check.Statement.{statement}
use Rattle.glyphs.proofs.character.char_check.Tie as tie

pub char_check_spec : {M : Type 1} → statement M
char_check_spec =
    tie.close
    (tie.spec
    (λ c κs. search rules)  -- char_ready-requires
    (λ c. search rules)  -- enum-known-ready
    (λ c. search char_stride_fits)  -- cast-glyph-drawn
    (λ c. search char_scale_fits)  -- cast-glyph-drawn-2
    (λ c κs. search rules)  -- glyph_drawn-requires
    (λ c κs. search rules)  -- char_of-requires
    (λ c. search rules)  -- enum-known-ready-2
    (λ c. search char_drawn)  -- returns
    (λ c. search char_none))  -- returns-2

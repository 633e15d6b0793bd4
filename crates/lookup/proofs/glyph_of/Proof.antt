use Rattle.lookup.proofs.Slots.{glyph_there, glyph_none}
use borrow.Author.Rules.{rules}
use Rattle.lookup.proofs.glyph_of.Statement.{statement}
use Rattle.lookup.proofs.glyph_of.Tie as tie

pub glyph_of_spec : {M : Type 1} → statement M
glyph_of_spec =
    tie.close
    (tie.spec
    (λ c κs. search rules)  -- slot_of-requires
    (λ c. search rules)  -- enum-known-slot
    (λ c. search rules)  -- cast-u16-at
    (λ c. search rules)  -- mul-u16-at
    (λ c κs. search rules)  -- u16_at-requires
    (λ c κs. search rules)  -- entry_glyph-requires
    (λ c. search rules)  -- enum-told
    (λ c. search glyph_there)  -- returns
    (λ c. search glyph_none))  -- returns-2

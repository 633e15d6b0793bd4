use Rattle.lookup.proofs.Slots.{entry_none, entry_some}
use Rattle.lookup.proofs.entry_glyph.Statement.{statement}
use Rattle.lookup.proofs.entry_glyph.Tie as tie

pub entry_glyph_spec : {M : Type 1} → statement M
entry_glyph_spec =
    tie.close
    (tie.spec
    (λ c. search entry_none)  -- returns
    (λ c. search entry_some))  -- returns-2

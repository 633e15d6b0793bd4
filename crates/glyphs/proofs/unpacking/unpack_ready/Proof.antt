use Rattle.tables.proofs.Guarded.{is_guard}
use Rattle.glyphs.proofs.Tested.{glyph_tested}
use borrow.Author.Rules.{rules}
use Rattle.glyphs.proofs.unpacking.unpack_ready.Statement.{statement}
use Rattle.glyphs.proofs.unpacking.unpack_ready.Tie as tie

pub unpack_ready_spec : {M : Type 1} → statement M
unpack_ready_spec =
    tie.close
    (tie.spec
    (λ c κs. search rules)  -- record_fits-requires
    (λ c κs. search rules)  -- ok_place-requires
    (λ c κs. search rules)  -- ok_info-requires
    (λ c κs. search rules)  -- guard-requires
    (λ c. search (glyph_tested, is_guard)))  -- returns

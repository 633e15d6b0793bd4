use Rattle.glyphs.proofs.Tested.{stride_fits, unpack_none, unpack_there, unpack_leaves_lem, unpack_refused}
use Rattle.glyphs.proofs.Leaves.{nothing_unpacked}
use borrow.Author.Rules.{rules}
use Rattle.glyphs.proofs.unpacking.unpack_glyph.Statement.{statement}
use Rattle.glyphs.proofs.unpacking.unpack_glyph.Tie as tie

pub unpack_glyph_spec : {M : Type 1} → statement M
unpack_glyph_spec =
    tie.close
    (tie.spec
    (λ c κs. search rules)  -- unpack_ready-requires
    (λ c. search rules)  -- enum-told
    (λ c κs. search rules)  -- no_bitmap-requires
    (λ c. search (unpack_none, nothing_unpacked))  -- returns
    (λ c. search stride_fits)  -- cast-line
    (λ c κs. search rules)  -- place_of-requires
    (λ c κs. search rules)  -- unpack_at-requires
    (λ c. search rules)  -- enum-known-permit
    (λ c. search rules)  -- same-length
    (λ c. search (unpack_there, unpack_leaves_lem))  -- returns-2
    (λ c. search unpack_refused))  -- returns-3

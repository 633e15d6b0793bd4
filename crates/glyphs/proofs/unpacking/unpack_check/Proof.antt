use Rattle.glyphs.proofs.Tested.{stride_fits, unpack_none, unpack_there, unpack_refused}
use borrow.Author.Rules.{rules}
use Rattle.glyphs.proofs.unpacking.unpack_check.Statement.{statement}
use Rattle.glyphs.proofs.unpacking.unpack_check.Tie as tie

pub unpack_check_spec : {M : Type 1} → statement M
unpack_check_spec =
    tie.close
    (tie.spec
    (λ c κs. search rules)  -- unpack_ready-requires
    (λ c. search rules)  -- enum-told
    (λ c κs. search rules)  -- no_bitmap-requires
    (λ c. search unpack_none)  -- returns
    (λ c. search stride_fits)  -- cast-line
    (λ c κs. search rules)  -- place_of-requires
    (λ c κs. search rules)  -- unpacked_at-requires
    (λ c. search rules)  -- enum-known-permit
    (λ c. search unpack_there)  -- returns-2
    (λ c. search unpack_refused))  -- returns-3

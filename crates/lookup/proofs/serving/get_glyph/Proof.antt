use Rattle.lookup.proofs.ServedBy.{glyph_fits, glyph_unfit}
use borrow.Author.Rules.{rules}
use Rattle.lookup.proofs.serving.get_glyph.Statement.{statement}
use Rattle.lookup.proofs.serving.get_glyph.Tie as tie

pub get_glyph_spec : {M : Type 1} → statement M
get_glyph_spec =
    tie.close
    (tie.spec
    (λ c κs. search rules)  -- record_fits-requires
    (λ c κs. search rules)  -- serve-requires
    (λ c. search glyph_fits)  -- returns
    (λ c. search glyph_unfit))  -- returns-2

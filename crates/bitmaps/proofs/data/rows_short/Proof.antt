use Rattle.bitmaps.proofs.LastByte.{glyph_short}
use borrow.Author.Rules.{rules}
use Rattle.bitmaps.proofs.data.rows_short.Statement.{statement}
use Rattle.bitmaps.proofs.data.rows_short.Tie as tie

pub rows_short_spec : {M : Type 1} → statement M
rows_short_spec =
    tie.close
    (tie.spec
    (λ c κs. search rules)  -- offset_of-requires
    (λ c κs. search rules)  -- row_stride-requires
    (λ c κs. search rules)  -- bytes_past-requires
    (λ c. search glyph_short))  -- returns

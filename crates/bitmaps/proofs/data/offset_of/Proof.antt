use Rattle.bitmaps.specs.Picture.{offset_of}
use borrow.Author.Rules.{rules}
use Rattle.bitmaps.proofs.data.offset_of.Statement.{statement}
use Rattle.bitmaps.proofs.data.offset_of.Tie as tie

pub offset_of_spec : {M : Type 1} → statement M
unfolding offset_of
offset_of_spec =
    tie.close
    (tie.spec
    (λ c. search rules)  -- cast-u32-at
    (λ c. search rules)  -- mul-u32-at
    (λ c κs. search rules)  -- u32_at-requires
    (λ c. search rules))  -- returns

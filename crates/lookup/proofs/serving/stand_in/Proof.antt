use Rattle.lookup.proofs.ServedBy.{none_stands_in, default_stands_in, default_lacks_too}
use borrow.Author.Rules.{rules}
use Rattle.lookup.proofs.serving.stand_in.Statement.{statement}
use Rattle.lookup.proofs.serving.stand_in.Tie as tie

pub stand_in_spec : {M : Type 1} → statement M
stand_in_spec =
    tie.close
    (tie.spec
    (λ c. search rules)  -- cast-t10
    (λ c κs. search rules)  -- glyph_of-requires
    (λ c. search rules)  -- enum-known-found
    (λ c. search rules)  -- enum-known-found-2
    (λ c. search default_stands_in)  -- returns
    (λ c. search default_lacks_too)  -- returns-2
    (λ c. search none_stands_in))  -- returns-3

use Rattle.lookup.proofs.ServedBy.{served_in_steps}
use borrow.Author.Rules.{rules}
use Rattle.lookup.proofs.serving.serve.Statement.{statement}
use Rattle.lookup.proofs.serving.serve.Tie as tie

pub serve_spec : {M : Type 1} → statement M
serve_spec =
    tie.close
    (tie.spec
    (λ c κs. search rules)  -- glyph_of-requires
    (λ c κs. search rules)  -- or_stand_in-requires
    (λ c. search served_in_steps))  -- returns

use Rattle.text.proofs.ShownGlyph.{inked_answer, inked_pixels, dry_pixels}
use borrow.Author.Rules.{rules}
use Rattle.text.proofs.pass.turn_drawn.Statement.{statement}
use Rattle.text.proofs.pass.turn_drawn.Tie as tie

pub turn_drawn_spec : {M : Type 1} → statement M
turn_drawn_spec =
    tie.close
    (tie.spec
    (λ c κs. search rules)  -- show_placed-requires
    (λ c. search rules)  -- same-length
    (λ c. (search inked_answer, search inked_pixels))  -- returns
    (λ c κs. search rules)  -- placed_drawn-requires
    (λ c. (search rules, search dry_pixels)))  -- returns-2

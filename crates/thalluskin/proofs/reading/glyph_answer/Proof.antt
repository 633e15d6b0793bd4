use Rattle.thalluskin.specs.Reading.{glyph_answer}
use Rattle.thalluskin.proofs.Answers.{matched}
use borrow.Author.Rules.{rules}
use Rattle.thalluskin.proofs.reading.glyph_answer.Statement.{statement}
use Rattle.thalluskin.proofs.reading.glyph_answer.Tie as tie

pub glyph_answer_spec : {M : Type 1} → statement M
glyph_answer_spec =
    tie.close
    (tie.spec
    (λ c. search rules)  -- enum-known-found
    (λ c. search rules)  -- enum-known-found-2
    (λ c. search rules)  -- cast-t6
    (λ c κs. search rules)  -- no_supplier-requires
    (λ c. search (matched glyph_answer))  -- returns
    (λ c. search (matched glyph_answer, c.no_supplier.ensures)))  -- returns-2

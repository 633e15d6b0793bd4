use Rattle.thalluskin.specs.Drawing.{char_answer}
use Rattle.thalluskin.proofs.Answers.{matched}
use borrow.Author.Rules.{rules}
use Rattle.thalluskin.proofs.drawing.char_answer.Statement.{statement}
use Rattle.thalluskin.proofs.drawing.char_answer.Tie as tie

pub char_answer_spec : {M : Type 1} → statement M
char_answer_spec =
    tie.close
    (tie.spec
    (λ c. search rules)  -- enum-known-drawn
    (λ c. search rules)  -- enum-known-drawn-2
    (λ c. search rules)  -- cast-t7
    (λ c κs. search rules)  -- no_info-requires
    (λ c κs. search rules)  -- no_supplier-requires
    (λ c. search (matched char_answer))  -- returns
    (λ c. search (matched char_answer, c.before.no_info.ensures, c.no_supplier.ensures)))  -- returns-2

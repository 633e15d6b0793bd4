use Rattle.lookup.proofs.ServedBy.{served_in_steps}
use Rattle.place.proofs.Placing.{char_placed, char_unplaced, char_refused}
use borrow.Author.Rules.{rules}
use Rattle.place.proofs.boxes.char_info.Statement.{statement}
use Rattle.place.proofs.boxes.char_info.Tie as tie

pub char_info_spec : {M : Type 1} → statement M
char_info_spec =
    tie.close
    (tie.spec
    (λ c κs. search rules)  -- glyph_of-requires
    (λ c κs. search rules)  -- or_stand_in-requires
    (λ c. search rules)  -- enum-known-served
    (λ c κs. search rules)  -- info_of-requires
    (λ c. search rules)  -- enum-known-info
    (λ c. search rules)  -- enum-known-info-2
    (λ c. search rules)  -- enum-known-served-2
    (λ c. search (char_placed, served_in_steps))  -- returns
    (λ c. search (char_unplaced, served_in_steps))  -- returns-2
    (λ c. search (char_refused, served_in_steps)))  -- returns-3

use Rattle.tables.proofs.Guarded.{is_guard}
use Rattle.glyphs.proofs.Tested.{ready_placed, ready_refused}
use borrow.Author.Rules.{rules}
use Rattle.glyphs.proofs.character.char_ready.Statement.{statement}
use Rattle.glyphs.proofs.character.char_ready.Tie as tie

pub char_ready_spec : {M : Type 1} → statement M
char_ready_spec =
    tie.close
    (tie.spec
    (λ c κs. search rules)  -- record_fits-requires
    (λ c κs. search rules)  -- ok_place-requires
    (λ c κs. search rules)  -- guard-requires
    (λ c. search rules)  -- enum-told
    (λ c κs. search rules)  -- char_info-requires
    (λ c. search rules)  -- enum-known-permit
    (λ c. search (ready_placed, is_guard))  -- returns
    (λ c. search (ready_refused, is_guard)))  -- returns-2

use Rattle.place.specs.Info.{prep_char}
use Rattle.place.specs.declared.CharPrepared.{CharPrepared}
use borrow.Author.Rules.{rules}
use Rattle.tables.proofs.TestedRecord.{tested_6, tested_answers}
use Rattle.place.proofs.boxes.prep_char.Statement.{statement}
use Rattle.place.proofs.boxes.prep_char.Tie as tie

returns : tie.Need-returns-then-record_fits
unfolding prep_char
returns c = search tested_answers

returns-2 : tie.Need-returns-else-record_fits
unfolding prep_char
returns-2 c = search (tested_6 CharPrepared.Refused)

pub prep_char_spec : {M : Type 1} → statement M
prep_char_spec =
    tie.close
    (tie.spec
    (λ c κs. search rules)  -- record_fits-requires
    (λ c κs. search rules)  -- char_info-requires
    returns
    returns-2)

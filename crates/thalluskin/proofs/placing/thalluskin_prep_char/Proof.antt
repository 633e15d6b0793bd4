use Rattle.reads.proofs.Places.{known}
use Rattle.place.specs.declared.CharPrepared.{CharPrepared}
use Rattle.thalluskin.specs.Placing.{info_answer}
use Rattle.thalluskin.proofs.Answers.{guard_given, guard_refused}
use borrow.Author.Rules.{rules}
use Rattle.thalluskin.proofs.placing.thalluskin_prep_char.Statement.{statement}
use Rattle.thalluskin.proofs.placing.thalluskin_prep_char.Tie as tie

pub thalluskin_prep_char_spec : {M : Type 1} → statement M
thalluskin_prep_char_spec =
    tie.close
    (tie.spec
    (λ c κs. search rules)  -- record_fits-requires
    (λ c κs. search rules)  -- is_known-requires
    (λ c κs. search rules)  -- guard-requires
    (λ c. search rules)  -- enum-told
    (λ c κs. search rules)  -- mode_of-requires
    (λ c κs. search rules)  -- char_info-requires
    (λ c κs. search rules)  -- info_answer-requires
    (λ c. search rules)  -- enum-known-permit
    (λ c κs. search rules)  -- info_answer-requires-2
    (λ c. search (guard_given info_answer CharPrepared.Refused, ← (known tie.After-mode_of (search)).mode_of.ensures))  -- returns
    (λ c. search (guard_refused info_answer CharPrepared.Refused)))  -- returns-2

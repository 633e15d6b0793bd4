use Rattle.reads.proofs.Places.{known}
use Rattle.thalluskin.specs.Reading.{accel_answer}
use Rattle.thalluskin.proofs.Answers.{call_matched}
use borrow.Author.Rules.{rules}
use Rattle.thalluskin.proofs.reading.thalluskin_accel.Statement.{statement}
use Rattle.thalluskin.proofs.reading.thalluskin_accel.Tie as tie

pub thalluskin_accel_spec : {M : Type 1} → statement M
thalluskin_accel_spec =
    tie.close
    (tie.spec
    (λ c κs. search rules)  -- get_accelerators-requires
    (λ c. search rules)  -- enum-known-answer
    (λ c. search rules)  -- enum-known-answer-2
    (λ c κs. search rules)  -- blank-requires
    (λ c. search rules)  -- cast-t9
    (λ c. search (call_matched accel_answer))  -- returns
    (λ c. search (call_matched accel_answer, (known tie.After-blank-none (search)).blank-none.ensures)))  -- returns-2

use Rattle.reads.proofs.Places.{known}
use Rattle.lookup.specs.declared.Served.{Served}
use Rattle.thalluskin.specs.Reading.{glyph_answer}
use Rattle.thalluskin.proofs.Answers.{guard_given, guard_refused}
use borrow.Author.Rules.{rules}
use Rattle.thalluskin.proofs.reading.thalluskin_glyph.Statement.{statement}
use Rattle.thalluskin.proofs.reading.thalluskin_glyph.Tie as tie

pub thalluskin_glyph_spec : {M : Type 1} → statement M
thalluskin_glyph_spec =
    tie.close
    (tie.spec
    (λ c κs. search rules)  -- record_fits-requires
    (λ c κs. search rules)  -- is_known-requires
    (λ c κs. search rules)  -- guard-requires
    (λ c. search rules)  -- enum-told
    (λ c κs. search rules)  -- mode_of-requires
    (λ c κs. search rules)  -- serve-requires
    (λ c κs. search rules)  -- glyph_answer-requires
    (λ c. search rules)  -- enum-known-permit
    (λ c κs. search rules)  -- glyph_answer-requires-2
    (λ c. search (guard_given glyph_answer Served.Refused, ← (known tie.After-mode_of (search)).mode_of.ensures))  -- returns
    (λ c. search (guard_refused glyph_answer Served.Refused)))  -- returns-2

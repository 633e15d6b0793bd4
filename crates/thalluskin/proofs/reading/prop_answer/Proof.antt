use mathlib.Core.Path.{◌≡◌}
use Rattle.names.specs.declared.Span.{Span}
use Rattle.props.specs.declared.PropValue.{PropValue}
use Rattle.thalluskin.specs.declared.PropertyAnswer.{PropertyAnswer}
use Rattle.thalluskin.specs.Reading.{value_answer}
use Rattle.thalluskin.proofs.Answers.{matched}
use borrow.Author.Rules.{rules}
use Rattle.thalluskin.proofs.reading.prop_answer.Statement.{statement}
use Rattle.thalluskin.proofs.reading.prop_answer.Tie as tie

of-value : (name : Span) (value case : PropValue) (out : PropertyAnswer)
    → value ≡ case → out ≡ value_answer name case → out ≡ value_answer name value
of-value name = matched (value_answer name)

pub prop_answer_spec : {M : Type 1} → statement M
prop_answer_spec =
    tie.close
    (tie.spec
    (λ c. search rules)  -- enum-known-value
    (λ c κs. search rules)  -- no_span-requires
    (λ c. search rules)  -- enum-known-value-2
    (λ c. search (of-value, c.no_span.ensures))  -- returns
    (λ c. search of-value))  -- returns-2

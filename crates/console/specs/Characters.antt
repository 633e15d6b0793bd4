-- A walk over a text's characters, by the steps of UTF-8.
use Rattle.std.specs.Prelude.{◌≡◌, Option, Some, None}
use Rattle.reads.specs.declared.CharCode.{CharCode}
use Rattle.utf8.specs.Step.{step_at}
use Rattle.utf8.specs.declared.Step.{Step}
use Rattle.console.specs.declared.characters.Characters.{Characters}

-- what a step gives, from this state to that one
abbrev pub Gives : Step → Characters → Option CharCode → Characters → Type 0
Gives (Step.Char code next) s r t = (r ≡ Some code) × (t ≡ record { text = s.text; at = next })
Gives Step.End s r t = (r ≡ None) × (t ≡ s)
Gives (Step.Refused bad) s r t = (r ≡ None) × (t ≡ s)

abbrev pub StepsOver : Characters → Option CharCode → Characters → Type 0
StepsOver s r t = Gives (step_at s.text.now s.at) s r t

use Prim.Native.Nat.{ℕ}
use mathlib.Core.Path.{◌≡◌, ap, ◌∙◌}
use mathlib.Core.Bool.{Bool, true, false, cond}
use Rattle.reads.specs.Said.{refusal}
use Rattle.load.specs.declared.Loaded.{Loaded}
use Rattle.modes.specs.Modes.{is_known}
use Rattle.thalluskin.specs.Reading.{font_answer}
use Rattle.thalluskin.specs.declared.FontAnswer.{FontAnswer}
use borrow.Author.Rules.{rules}
use Rattle.thalluskin.proofs.reading.thalluskin_vet.Statement.{statement}
use Rattle.thalluskin.proofs.reading.thalluskin_vet.Tie as tie

module _ (mode : ℕ) (is_Known : Bool) (Known-is : is_Known ≡ is_known mode) (is : Loaded) (out : FontAnswer) where
  vetted-known : (found : Loaded) → is_Known ≡ true → found ≡ is → out ≡ font_answer found
      → out ≡ font_answer (cond (is_known mode) is (Loaded.Refused (refusal 15 0)))
  vetted-known found e same told = rw (← Known-is, e) (told ∙ ap font_answer same)

  vetted-unknown : is_Known ≡ false → out ≡ font_answer (Loaded.Refused (refusal 15 0))
      → out ≡ font_answer (cond (is_known mode) is (Loaded.Refused (refusal 15 0)))
  vetted-unknown e told = rw (← Known-is, e) told

pub thalluskin_vet_spec : {M : Type 1} → statement M
thalluskin_vet_spec =
    tie.close
    (tie.spec
    (λ c κs. search rules)  -- is_known-requires
    (λ c κs. search rules)  -- record_of-requires
    (λ c κs. search rules)  -- font_answer-requires
    (λ c. search vetted-known)  -- returns
    (λ c κs. search rules)  -- font_answer-requires-2
    (λ c. search vetted-unknown))  -- returns-2

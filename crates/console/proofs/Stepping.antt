-- What a step of the walk over a text's characters leaves.
use Prim.Native.Nat.{ℕ, ◌<◌, ◌≤◌}
use mathlib.Core.Path.{◌≡◌, refl, sym, ap, ◌∙◌}
use mathlib.Core.List.{List, [], ◌∷◌}
use native.Mathlib.Omega.{arith}
use lib.ListN.{length}
use Rattle.std.specs.Prelude.{Option, Some, None, unwrap_or}
use Rattle.reads.specs.declared.CharCode.{CharCode}
use Rattle.utf8.specs.Step.{step_at}
use Rattle.utf8.specs.Decode.{Char}
use Rattle.utf8.specs.declared.Step.{Step}
use Rattle.utf8.proofs.Walk.{step_within, Left, left_char, left_end, left_bad}
use Rattle.console.specs.declared.characters.Characters.{Characters}
use Rattle.console.specs.Characters.{Gives, StepsOver}

not_none : (code : CharCode) → ◌≡◌ {A = Option CharCode} (Some code) None → ⊥
not_none code e = let z : ◌≡◌ {A = ℕ} 0 1 = cc in omega arith

-- a character that stands at byte i, with those after it from byte `next` on
pub record Stood (text : List ℕ) (i : ℕ) (code : CharCode) (next : ℕ) : Type 0 where
  pub further : i < next
  pub within : next ≤ length text
  pub others : (cs : List Char) → Left text i cs → (rest : List Char) × (cs ≡ record { byte = i; code = code.0 } ∷ rest) × Left text next rest

module _ (s t : Characters) where
  pub step_some : (code : CharCode) → StepsOver s (Some code) t
      → (next : ℕ) × (t ≡ record { text = s.text; at = next }) × Stood s.text.now s.at code next
  step_some code gives = by (step_at s.text.now s.at) refl gives where
    by : (here : Step) → here ≡ step_at s.text.now s.at → Gives here s (Some code) t
        → (next : ℕ) × (t ≡ record { text = s.text; at = next }) × Stood s.text.now s.at code next
    by (Step.Char c next) e (is, to) =
        let same : c ≡ code = sym (ap (λ (o : Option CharCode). unwrap_or o code) is) in
        let read : step_at s.text.now s.at ≡ Step.Char code next = sym e ∙ ap (λ (x : CharCode). Step.Char x next) same in
        let (f, w) = step_within s.text.now s.at code next read in
        (next, to, record { further = f; within = w; others = λ cs left. left_char s.text.now s.at cs code next left read })
    by Step.End e (is, to) = absurd (not_none code is)
    by (Step.Refused bad) e (is, to) = absurd (not_none code is)

  pub step_none : StepsOver s None t → (cs : List Char) → Left s.text.now s.at cs → cs ≡ []
  step_none gives cs left = by (step_at s.text.now s.at) refl gives where
    by : (here : Step) → here ≡ step_at s.text.now s.at → Gives here s None t → cs ≡ []
    by (Step.Char c next) e (is, to) = absurd (not_none c (sym is))
    by Step.End e (is, to) = left_end s.text.now s.at cs left (sym e)
    by (Step.Refused bad) e (is, to) = absurd (left_bad s.text.now s.at cs bad left (sym e))

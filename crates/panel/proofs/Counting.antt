-- What is counted and what is left make the whole count.
use Prim.Native.Nat.{ℕ, ◌+◌, ◌^◌, ◌<◌, ◌≤◌}
use mathlib.Core.Path.{◌≡◌, refl, sym, ap, subst, ◌∙◌}
use mathlib.Core.Bool.{Bool, true, false, cond}
use mathlib.Core.List.{List, [], ◌∷◌}
use lib.ListN.{length}
use native.Mathlib.Omega.{arith}
use mir.Syntax.{w64}
use mir.Val.{Fits, bool_byte}
use Rattle.std.specs.Prelude.{Some, None}
use Rattle.reads.specs.declared.CharCode.{CharCode}
use Rattle.tables.specs.declared.EncodingData.{EncodingData}
use Rattle.modes.specs.declared.Mode.{Mode}
use Rattle.lookup.specs.Served.{served}
use Rattle.lookup.specs.declared.Served.{Served}
use Rattle.utf8.specs.Decode.{Char, decoded, chars}
use Rattle.utf8.proofs.Walk.{Left, left_all}
use Rattle.console.specs.declared.characters.Characters.{Characters}
use Rattle.console.specs.Characters.{StepsOver}
use Rattle.console.proofs.Stepping.{Stood, step_some, step_none}
use Rattle.panel.specs.Served.{by_default, default_count, CountsDefaults}

-- n, and the count of those that are left from byte i on, are the count of all
abbrev AddsUp : List ℕ → EncodingData → Mode → List ℕ → ℕ → ℕ → List Char → Type 0
AddsUp s c mode text i n cs = (rest : List Char) × Left text i rest × (n + default_count s c mode rest ≡ default_count s c mode cs)

-- before byte i of the text n were counted
pub record Counted (s : List ℕ) (c : EncodingData) (mode : Mode) (text : List ℕ) (i n : ℕ) : Type 0 where
  pub few : n ≤ i
  pub adds-up : (cs : List Char) → decoded text ≡ chars cs → AddsUp s c mode text i n cs

in-number : (b : Bool) → bool_byte b ≡ cond b 1 0
in-number true = refl
in-number false = refl

one_at_most : (b : Bool) → bool_byte b ≤ 1
one_at_most true = omega arith
one_at_most false = omega arith

module _ (s : List ℕ) (c : EncodingData) (mode : Mode) where
  pub counted-first : (it : Characters) → it.at ≡ 0 → Counted s c mode it.text.now it.at 0
  counted-first it start = subst (λ (j : ℕ). Counted s c mode it.text.now j 0) (sym start)
      (record { few = omega arith; adds-up = λ cs e. (cs, left_all it.text.now cs e, omega arith) })

  one_more : (i k : ℕ) (rest : List Char)
      → default_count s c mode (record { byte = i; code = k } ∷ rest) ≡ cond (by_default k (served s c mode k)) 1 0 + default_count s c mode rest
  unfolding default_count
  one_more i k rest = refl

  none_left : default_count s c mode [] ≡ 0
  unfolding default_count
  none_left = refl

  module _ (it to : Characters) (n : ℕ) (now : Counted s c mode it.text.now it.at n) where
    -- a character has a byte at least, so the count fits as the places do
    pub count_fits : (code : CharCode) (more : Bool) → StepsOver it (Some code) to → length it.text.now < 2 ^ 64 → Fits w64 (n + bool_byte more)
    count_fits code more steps short =
        let (next, is, stood) = step_some it to code steps in
        omega (arith, now.few, stood.further, stood.within, one_at_most more)

    pub counted_next : (code : CharCode) (found : Served) (more : Bool) → StepsOver it (Some code) to
        → found ≡ served s c mode code.0 → more ≡ by_default code.0 found → Counted s c mode to.text.now to.at (n + bool_byte more)
    counted_next code found more steps found-is more-is = by (step_some it to code steps) where
      counts : bool_byte more ≡ cond (by_default code.0 (served s c mode code.0)) 1 0
      counts = in-number more ∙ ap (λ (b : Bool). cond b 1 0) (more-is ∙ ap (by_default code.0) found-is)

      after : (next : ℕ) → Stood it.text.now it.at code next → Counted s c mode it.text.now next (n + bool_byte more)
      after next stood = record {
        few = omega (arith, now.few, stood.further, one_at_most more);
        adds-up = λ cs e. on cs (now.adds-up cs e);
      } where
        on : (cs : List Char) → AddsUp s c mode it.text.now it.at n cs → AddsUp s c mode it.text.now next (n + bool_byte more) cs
        on cs (rest, left, sum) = with-others (stood.others rest left) where
          with-others : (others : List Char) × (rest ≡ record { byte = it.at; code = code.0 } ∷ others) × Left it.text.now next others
              → AddsUp s c mode it.text.now next (n + bool_byte more) cs
          with-others (others, is, left) =
              let split : default_count s c mode rest ≡ cond (by_default code.0 (served s c mode code.0)) 1 0 + default_count s c mode others
              = ap (default_count s c mode) is ∙ one_more it.at code.0 others in
              (others, left, omega (arith, sum, split, counts))

      by : (next : ℕ) × (to ≡ record { text = it.text; at = next }) × Stood it.text.now it.at code next
          → Counted s c mode to.text.now to.at (n + bool_byte more)
      by (next, is, stood) = subst (λ (x : Characters). Counted s c mode x.text.now x.at (n + bool_byte more)) (sym is) (after next stood)

    pub same_text : (code : CharCode) (text : List ℕ) → StepsOver it (Some code) to → it.text.now ≡ text → to.text.now ≡ text
    same_text code text steps same = by (step_some it to code steps) where
      by : (next : ℕ) × (to ≡ record { text = it.text; at = next }) × Stood it.text.now it.at code next → to.text.now ≡ text
      by (next, is, stood) = ap (λ (x : Characters). x.text.now) is ∙ same

    pub counted-all : (text : List ℕ) → StepsOver it None to → it.text.now ≡ text → CountsDefaults s c mode text n
    counted-all text steps same = subst (λ (t : List ℕ). CountsDefaults s c mode t n) same (λ cs e. by cs (now.adds-up cs e)) where
      by : (cs : List Char) → AddsUp s c mode it.text.now it.at n cs → n ≡ default_count s c mode cs
      by cs (rest, left, sum) =
          let none : default_count s c mode rest ≡ 0 = ap (default_count s c mode) (step_none it to steps rest left) ∙ none_left in
          omega (arith, sum, none)

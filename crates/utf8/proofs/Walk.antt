-- A walk over the characters of a text that is UTF-8, by steps: what is left from a byte on.
use Prim.Native.Nat.{ℕ, zero, suc, ◌+◌, ◌-◌, ◌<◌, ◌≤◌}
use mathlib.Core.Path.{◌≡◌, refl, sym, ap, ◌∙◌}
use mathlib.Core.List.{List, [], ◌∷◌}
use native.Mathlib.Omega.{arith}
use lib.ListN.{length, drop, length-drop, length-append}
use Rattle.reads.specs.declared.CharCode.{CharCode}
use Rattle.reads.specs.declared.Refusal.{Refusal}
use Rattle.utf8.specs.Step.{step_at}
use Rattle.utf8.specs.Decode.{Char, Decoded, chars, refused, cons_char, after_step, decode_from, decoded, chars_of, checked}
use Rattle.utf8.specs.declared.Checked.{Checked}
use Rattle.utf8.specs.declared.Step.{Step}
use Rattle.utf8.proofs.Lines.{sequence_some}
use Rattle.utf8.proofs.Characters.{Stands, step_sequence}

-- a character ends within its text
pub step_within : (text : List ℕ) (i : ℕ) (code : CharCode) (next : ℕ) → step_at text i ≡ Step.Char code next → (i < next) × (next ≤ length text)
step_within text i code next e = by (step_sequence text i code next e)
  where
    by : (q : List ℕ) × Stands text i next q → (i < next) × (next ≤ length text)
    by ([], (f, n, d)) = absurd (sequence_some f)
    by (b ∷ q, (f, n, d)) =
        let l : length text - i ≡ length (b ∷ q) + length (drop next text) = sym (length-drop i text) ∙ ap (λ (r : List ℕ). length r) d ∙ length-append (b ∷ q) (drop next text) in
        (omega (arith, n), omega (arith, n, l))

-- so less is left after it
pub step_less : (text : List ℕ) (i : ℕ) (here : Step) (code : CharCode) (next : ℕ) → here ≡ step_at text i → here ≡ Step.Char code next
    → length text - next < length text - i
step_less text i here code next here-is read = omega (arith, step_within text i code next (sym here-is ∙ read))

-- ---- what is left of a text

-- from byte i on the characters are these
abbrev pub Left : List ℕ → ℕ → List Char → Type 0
Left text i cs = (f : ℕ) × (length text - i < f) × (decode_from f text i ≡ chars cs)

chars_eq : (cs ds : List Char) → chars cs ≡ chars ds → ds ≡ cs
chars_eq cs ds e = ap chars_of (sym e)

not_chars : (r : Refusal) (cs : List Char) → refused r ≡ chars cs → ⊥
not_chars r cs e = let z : ◌≡◌ {A = ℕ} 0 1 = cc in omega arith

module _ (text : List ℕ) (i : ℕ) (cs : List Char) where
  pub left_end : Left text i cs → step_at text i ≡ Step.End → cs ≡ []
  unfolding decode_from
  left_end (zero, h, e) s = absurd (omega arith)
  left_end (suc f, h, e) s = chars_eq [] cs (ap (λ (x : Step). after_step x i (λ next. decode_from f text next)) (sym s) ∙ e)

  pub left_bad : (r : Refusal) → Left text i cs → step_at text i ≡ Step.Refused r → ⊥
  unfolding decode_from
  left_bad r (zero, h, e) s = omega arith
  left_bad r (suc f, h, e) s = not_chars r cs (ap (λ (x : Step). after_step x i (λ next. decode_from f text next)) (sym s) ∙ e)

  pub left_char : (code : CharCode) (next : ℕ) → Left text i cs → step_at text i ≡ Step.Char code next
      → (rest : List Char) × (cs ≡ record { byte = i; code = code.0 } ∷ rest) × Left text next rest
  unfolding decode_from
  left_char code next (zero, h, e) s = absurd (omega arith)
  left_char code next (suc f, h, e) s = by (decode_from f text next) refl
    where
      c : Char
      c = record { byte = i; code = code.0 }

      first : cons_char c (decode_from f text next) ≡ chars cs
      first = ap (λ (x : Step). after_step x i (λ next. decode_from f text next)) (sym s) ∙ e

      by : (d : Decoded) → decode_from f text next ≡ d → (rest : List Char) × (cs ≡ c ∷ rest) × Left text next rest
      by (chars rest) q = (rest, chars_eq (c ∷ rest) cs (ap (cons_char c) (sym q) ∙ first), (f, omega (arith, step_within text i code next s), q))
      by (refused r) q = absurd (not_chars r cs (ap (cons_char c) (sym q) ∙ first))

pub left_all : (text : List ℕ) (cs : List Char) → decoded text ≡ chars cs → Left text 0 cs
unfolding decoded
left_all text cs e = (suc (length text), omega arith, e)

-- ---- what the check of a whole text tells

whole : (d : Decoded) → checked d ≡ Checked.Whole → d ≡ chars (chars_of d)
whole (chars cs) e = refl
whole (refused r) e = let z : ◌≡◌ {A = ℕ} 0 1 = cc in absurd (omega arith)

pub checked_whole : (text : List ℕ) → checked (decoded text) ≡ Checked.Whole → decoded text ≡ chars (chars_of (decoded text))
checked_whole text e = whole (decoded text) e

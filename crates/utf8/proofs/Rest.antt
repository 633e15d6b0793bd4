-- The walk over a whole text, by steps: its answer is that of the rest.
use Prim.Native.Nat.{ℕ, zero, suc, ◌-◌, ◌<◌, ◌≤◌}
use mathlib.Core.Path.{◌≡◌, refl, sym, ap, ◌∙◌}
use mathlib.Core.List.{List}
use native.Mathlib.Omega.{arith}
use lib.ListN.{length}
use Rattle.reads.specs.declared.CharCode.{CharCode}
use Rattle.reads.specs.declared.Refusal.{Refusal}
use Rattle.utf8.specs.Step.{step_at}
use Rattle.utf8.specs.Decode.{Char, Decoded, chars, refused, cons_char, after_step, decode_from, decoded, checked}
use Rattle.utf8.specs.declared.Checked.{Checked}
use Rattle.utf8.specs.declared.Step.{Step}
use Rattle.utf8.proofs.Walk.{step_less}

-- from byte i on the answer is this
pub record Answer (text : List ℕ) (i : ℕ) (a : Checked) : Type 0 where
  pub fuel : ℕ
  pub enough : length text - i < fuel
  pub is : a ≡ checked (decode_from fuel text i)

checked_cons : (c : Char) (d : Decoded) → checked (cons_char c d) ≡ checked d
checked_cons c (chars cs) = refl
checked_cons c (refused r) = refl

module _ (text : List ℕ) (i : ℕ) (a : Checked) (here : Step) (now : Answer text i a) (here-is : here ≡ step_at text i) where
  -- the answer is that of the step here, or of the steps after it
  stepped : (x : Step) → here ≡ x → (f : ℕ) × (length text - i ≤ f) × (a ≡ checked (after_step x i (λ next. decode_from f text next)))
  unfolding decode_from
  stepped x e = by now.fuel now.enough now.is
    where
      by : (f : ℕ) → length text - i < f → a ≡ checked (decode_from f text i) → (f : ℕ) × (length text - i ≤ f) × (a ≡ checked (after_step x i (λ next. decode_from f text next)))
      by zero h d = absurd (omega arith)
      by (suc f) h d = (f, omega arith, d ∙ ap (λ (y : Step). checked (after_step y i (λ next. decode_from f text next))) (sym here-is ∙ e))

  pub answer_end : here ≡ Step.End → Checked.Whole ≡ a
  answer_end e = sym (stepped Step.End e).2

  pub answer_bad : (r : Refusal) → here ≡ Step.Refused r → Checked.Refused r ≡ a
  answer_bad r e = sym (stepped (Step.Refused r) e).2

  module _ (code : CharCode) (next : ℕ) (read : here ≡ Step.Char code next) where
    pub answer_next : Answer text next a
    answer_next =
        let (f, h, e) = stepped (Step.Char code next) read in
        record { fuel = f; enough = omega (arith, step_less text i here code next here-is read); is = e ∙ checked_cons (record { byte = i; code = code.0 }) (decode_from f text next) }

pub answer_all : (text : List ℕ) → Answer text 0 (checked (decoded text))
unfolding decoded
answer_all text = record { fuel = suc (length text); enough = omega arith; is = refl }

-- The walk accepts exactly the well-formed texts, and refuses every other with 19 at the byte where its first ill-formed sequence starts.
use Prim.Native.Nat.{ℕ, zero, suc, ◌+◌, ◌-◌, ◌<◌}
use mathlib.Core.Path.{◌≡◌, refl, sym, ap, subst, ◌∙◌}
use mathlib.Core.Logic.{◌↔◌}
use mathlib.Core.List.{List, [], ◌∷◌, ◌++◌, append-nil, append_assoc}
use native.Mathlib.Omega.{arith}
use lib.ListN.{length, take, drop, length-append, length-drop, take-append-drop, drop_of_length-le}
use lib.Seq.{drop-drop, length-take-le, take-append_seam, drop-append_seam, take-append-add, drop-append-add}
use Rattle.reads.specs.Said.{refusal}
use Rattle.reads.specs.declared.Refusal.{Refusal}
use Rattle.utf8.specs.Step.{step_at}
use Rattle.utf8.specs.Decode.{Char, Decoded, chars, refused, cons_char, after_step, decode_from, decoded, checked}
use Rattle.utf8.specs.WellFormed.{Sequence, Each, joined, WellFormed, IllFormed}
use Rattle.utf8.specs.declared.Checked.{Checked}
use Rattle.utf8.specs.declared.Step.{Step}
use Rattle.utf8.proofs.Characters.{Stands, step_sequence, step_last, step_refused, step_none, sequence_step}
use Rattle.utf8.proofs.Steps.{past_end}
use Rattle.utf8.proofs.Walk.{step_within}
use Rattle.utf8.proofs.Rest.{Answer, answer_all, answer_next, answer_end, answer_bad}

-- ---- one sequence more in front

nothing : WellFormed []
nothing = record { parts = []; each = tt; is = refl }

well_more : (q xs : List ℕ) → Sequence q → WellFormed xs → WellFormed (q ++ xs)
well_more q xs f w = record { parts = q ∷ w.parts; each = (f, w.each); is = ap (λ (r : List ℕ). q ++ r) w.is }

ill_more : (q xs : List ℕ) (p : ℕ) → Sequence q → IllFormed xs p → IllFormed (q ++ xs) (length q + p)
ill_more q xs p f x =
    record {
      before = subst WellFormed (sym (take-append-add q xs p)) (well_more q (take p xs) f x.before);
      inside = omega (arith, length-append q xs, x.inside);
      none = λ n g. x.none n (rw (drop-append-add q xs p) at g);
    }

-- ---- what the walk tells

module _ (text : List ℕ) where
  abbrev Told : ℕ → Decoded → Type 0
  Told i (chars cs) = WellFormed (drop i text)
  Told i (refused r) = (p : ℕ) × (r ≡ refusal 19 (i + p)) × IllFormed (drop i text) p

  told_more : (i next : ℕ) (q : List ℕ) → Stands text i next q → (c : Char) (d : Decoded) → Told next d → Told i (cons_char c d)
  told_more i next q (f, n, e) c (chars cs) w = subst WellFormed (sym e) (well_more q (drop next text) f w)
  told_more i next q (f, n, e) c (refused r) (p, number, x) =
      let place : next + p ≡ i + (length q + p) = omega (arith, n) in
      (length q + p, number ∙ ap (refusal 19) place, subst (λ (r : List ℕ). IllFormed r (length q + p)) (sym e) (ill_more q (drop next text) p f x))

  told_none : (i : ℕ) (r : Refusal) → step_at text i ≡ Step.Refused r → IllFormed (drop i text) 0
  told_none i r e =
      record {
        before = nothing;
        inside = omega (arith, length-drop i text, (step_refused text i r e).1);
        none = λ n g. step_none text i r (take n (drop i text)) (drop n (drop i text)) e g (sym (take-append-drop n (drop i text)));
      }

  told : (f i : ℕ) → length text - i < f → Told i (decode_from f text i)
  unfolding decode_from
  told zero i h = absurd (omega arith)
  told (suc f) i h = by (step_at text i) refl (λ next l. told f next l)
    where
      by : (x : Step) → step_at text i ≡ x → ((next : ℕ) → length text - next < f → Told next (decode_from f text next)) → Told i (after_step x i (λ next. decode_from f text next))
      by (Step.Char code next) e rest =
          let g = step_sequence text i code next e in
          told_more i next g.0 g.1 (record { byte = i; code = code.0 }) (decode_from f text next) (rest next (omega (arith, step_within text i code next e)))
      by Step.End e rest = subst WellFormed (sym (drop_of_length-le text (step_last text i e))) nothing
      by (Step.Refused r) e rest =
          let place : i ≡ i + 0 = omega arith in
          (0, (step_refused text i r e).0 ∙ ap (refusal 19) place, told_none i r e)

  told_all : Told 0 (decoded text)
  unfolding decoded
  told_all = told (suc (length text)) 0 (omega arith)

  -- ---- what well-formed texts have the walk do

  answer_parts : (parts : List (List ℕ)) → Each parts → (i : ℕ) (rest : List ℕ) (a : Checked) → drop i text ≡ joined parts ++ rest → Answer text i a → Answer text (i + length (joined parts)) a
  answer_parts [] fs i rest a e x = let same : i ≡ i + 0 = omega arith in subst (λ (k : ℕ). Answer text k a) same x
  answer_parts (q ∷ qs) (f, fs) i rest a e x =
      let d : drop i text ≡ q ++ (joined qs ++ rest) = e ∙ append_assoc q (joined qs) rest in
      let c = sequence_step text i q (joined qs ++ rest) f d in
      let next : drop (i + length q) text ≡ joined qs ++ rest = sym (drop-drop (length q) i text) ∙ ap (λ (r : List ℕ). drop (length q) r) d ∙ drop-append_seam q (joined qs ++ rest) in
      let sum : i + length q + length (joined qs) ≡ i + length (q ++ joined qs) = omega (arith, length-append q (joined qs)) in
      subst (λ (k : ℕ). Answer text k a) sum (answer_parts qs fs (i + length q) rest a next (answer_next text i a (step_at text i) x refl c.0 (i + length q) c.1))

  well_accepted : WellFormed text → checked (decoded text) ≡ Checked.Whole
  well_accepted w =
      let n = length (joined w.parts) in
      let x = answer_parts w.parts w.each 0 [] (checked (decoded text)) (w.is ∙ sym (append-nil (joined w.parts))) (answer_all text) in
      sym (answer_end text (0 + n) (checked (decoded text)) Step.End x (past_end text (0 + n) (omega (arith, ap (λ (r : List ℕ). length r) w.is))) refl)

  none_refused : (p : ℕ) → IllFormed text p → step_at text p ≡ Step.Refused (refusal 19 p)
  none_refused p x = by (step_at text p) refl
    where
      by : (s : Step) → step_at text p ≡ s → s ≡ Step.Refused (refusal 19 p)
      by (Step.Char code next) e =
          let g = step_sequence text p code next e in
          let q = g.0 in
          let alone : q ≡ take (length q) (drop p text) = sym (take-append_seam q (drop next text)) ∙ ap (λ (r : List ℕ). take (length q) r) (sym g.1.2) in
          absurd (x.none (length q) (subst Sequence alone g.1.0))
      by Step.End e = absurd (omega (arith, step_last text p e, x.inside))
      by (Step.Refused r) e = ap Step.Refused (step_refused text p r e).0

  ill_refused : (p : ℕ) → IllFormed text p → checked (decoded text) ≡ Checked.Refused (refusal 19 p)
  ill_refused p x =
      let w = x.before in
      let e : text ≡ joined w.parts ++ drop p text = sym (take-append-drop p text) ∙ ap (λ (r : List ℕ). r ++ drop p text) w.is in
      let place : 0 + length (joined w.parts) ≡ p = omega (arith, ap (λ (r : List ℕ). length r) w.is, length-take-le p text (omega (arith, x.inside))) in
      let y = answer_parts w.parts w.each 0 (drop p text) (checked (decoded text)) e (answer_all text) in
      sym (answer_bad text p (checked (decoded text)) (step_at text p) (rw place at y) refl (refusal 19 p) (none_refused p x))

  whole_well : (d : Decoded) → Told 0 d → checked d ≡ Checked.Whole → WellFormed text
  whole_well (chars cs) w e = w
  whole_well (refused r) x e = let z : ◌≡◌ {A = ℕ} 0 1 = cc in absurd (omega arith)

  refused_ill : (d : Decoded) (r : Refusal) → Told 0 d → checked d ≡ Checked.Refused r → (r.number ≡ 19) × IllFormed text r.place
  refused_ill (chars cs) r w e = let z : ◌≡◌ {A = ℕ} 0 1 = cc in absurd (omega arith)
  refused_ill (refused s) r (p, number, x) e =
      let same : s ≡ r = cc in
      let is : r ≡ refusal 19 (0 + p) = sym same ∙ number in
      let place : p ≡ r.place = omega (arith, ap (λ (t : Refusal). t.place) is) in
      (ap (λ (t : Refusal). t.number) is, subst (IllFormed text) place x)

-- ---- the two laws

pub accepts : (text : List ℕ) → (checked (decoded text) ≡ Checked.Whole) ↔ WellFormed text
accepts text = (whole_well text (decoded text) (told_all text), well_accepted text)

pub refuses_at : (text : List ℕ) (r : Refusal) → (checked (decoded text) ≡ Checked.Refused r) ↔ ((r.number ≡ 19) × IllFormed text r.place)
refuses_at text r = (
  refused_ill text (decoded text) r (told_all text),
  λ x.
      let same : refusal 19 r.place ≡ r = λ i. record { number = sym x.0 i; place = r.place } in
      ill_refused text r.place x.1 ∙ ap Checked.Refused same,
)

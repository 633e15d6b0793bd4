-- What `check` answers: 19 for a text that is too long, and of any other what the walk over it comes to.
use Prim.Native.Nat.{ℕ, ◌≤◌, ◌<◌}
use mathlib.Core.Path.{◌≡◌, refl, sym, ap, subst, ◌∙◌}
use mathlib.Core.Logic.{◌↔◌, inl, inr, ⊎_elim}
use mathlib.Core.List.{List}
use native.Mathlib.Omega.{arith}
use lib.ListN.{length}
use lib.Dec.{leb}
use borrow.Author.Tests.{le-leb, lt-leb, leb-true, leb-false}
use Rattle.reads.specs.Said.{Said, refusal, refuses}
use Rattle.reads.specs.declared.Refusal.{Refusal}
use Rattle.reads.proofs.Tests.{split}
use Rattle.utf8.specs.Decode.{decoded, checked, checked_text, said_checked}
use Rattle.utf8.specs.WellFormed.{WellFormed, RefusedText}
use Rattle.utf8.specs.declared.Checked.{Checked}
use Rattle.utf8.proofs.Accepts.{accepts, refuses_at}

module _ (text : List ℕ) where
  pub too_long : 65535 < length text → Checked.Refused (refusal 19 0) ≡ checked_text text
  unfolding checked_text
  too_long h = rw (lt-leb (length text) 65535 h)

  pub short_enough : (r : Checked) → length text ≤ 65535 → r ≡ checked (decoded text) → r ≡ checked_text text
  unfolding checked_text
  short_enough r h is = rw (le-leb (length text) 65535 h) is

  walked : length text ≤ 65535 → checked (decoded text) ≡ checked_text text
  walked h = short_enough (checked (decoded text)) h refl

  pub whole_walked : checked_text text ≡ Checked.Whole → (length text ≤ 65535) × (checked (decoded text) ≡ Checked.Whole)
  whole_walked e =
      split (leb (length text) 65535)
      (λ t. let h = leb-true (length text) 65535 t in (h, walked h ∙ e))
      (λ t.
      let d : Checked.Refused (refusal 19 0) ≡ Checked.Whole = too_long (leb-false (length text) 65535 t) ∙ e in
      let z : ◌≡◌ {A = ℕ} 0 1 = cc in absurd (omega arith))

  -- ---- by number, place and values

  whole_text_lem : checked_text text ≡ Checked.Whole → (length text ≤ 65535) × WellFormed text
  whole_text_lem e = let (h, w) = whole_walked e in (h, (accepts text).0 w)

  pub well_whole : length text ≤ 65535 → WellFormed text → checked_text text ≡ Checked.Whole
  well_whole h w = sym (walked h) ∙ (accepts text).1 w

  pub refused_text : (r : Refusal) → checked_text text ≡ Checked.Refused r → (r.number ≡ 19) × RefusedText text r.place
  refused_text r e =
      split (leb (length text) 65535)
      (λ t. let h = leb-true (length text) 65535 t in let (number, ill) = (refuses_at text r).0 (walked h ∙ e) in (number, inr (h, ill)))
      (λ t.
      let h = leb-false (length text) 65535 t in
      let d : Checked.Refused (refusal 19 0) ≡ Checked.Refused r = too_long h ∙ e in
      let same : r ≡ refusal 19 0 = cc in
      (ap (λ (t : Refusal). t.number) same, inl (h, ap (λ (t : Refusal). t.place) same)))

  text_refused : (p : ℕ) → RefusedText text p → checked_text text ≡ Checked.Refused (refusal 19 p)
  text_refused p =
      ⊎_elim (λ (h, z). sym (too_long h) ∙ ap (λ (k : ℕ). Checked.Refused (refusal 19 k)) (sym z))
      (λ (h, ill). sym (walked h) ∙ (refuses_at text (refusal 19 p)).1 (refl, ill))

  accepted : (a : Checked) → checked_text text ≡ a → (said_checked a).number ≡ 0 → (length text ≤ 65535) × WellFormed text
  accepted Checked.Whole e z = whole_text_lem e
  accepted (Checked.Refused r) e z = absurd (omega (arith, (refused_text r e).0))

  -- number 0 exactly for a text that is short enough and well-formed
  pub check_accepts : ((said_checked (checked_text text)).number ≡ 0) ↔ ((length text ≤ 65535) × WellFormed text)
  check_accepts = (accepted (checked_text text) refl, λ (h, w). rw (well_whole h w))

  turned_down : (a : Checked) (n p : ℕ) → checked_text text ≡ a → (n ≡ 0 → ⊥) → said_checked a ≡ refuses (refusal n p) → (n ≡ 19) × RefusedText text p
  turned_down Checked.Whole n p e some said = absurd (some (sym (ap (λ (t : Said). t.number) said)))
  turned_down (Checked.Refused r) n p e some said =
      let (number, none) = refused_text r e in
      (sym (ap (λ (t : Said). t.number) said) ∙ number, subst (RefusedText text) (ap (λ (t : Said). t.place) said) none)

  -- any other number exactly for a text that is too long or ill-formed: 19, with its place
  pub check_refuses : (n p : ℕ) → (n ≡ 0 → ⊥) → (said_checked (checked_text text) ≡ refuses (refusal n p)) ↔ ((n ≡ 19) × RefusedText text p)
  check_refuses n p some = (turned_down (checked_text text) n p refl some, λ (number, none). rw (text_refused p none, number))

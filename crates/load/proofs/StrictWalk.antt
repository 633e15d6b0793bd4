-- The walk over the directory, strict and tolerant beside each other, from an entry on.
use Prim.Native.Nat.{ℕ, zero, suc, ◌+◌, ◌≤◌, ◌<◌}
use mathlib.Core.Path.{◌≡◌, refl, sym, ap, ◌∙◌}
use mathlib.Core.Bool.{true, false}
use mathlib.Core.List.{List, [], ◌∷◌}
use mathlib.Core.Logic.{◌⊎◌, inl, inr, ⊎_elim}
use native.Mathlib.Nat.{eq-or-lt_of_le}
use native.Mathlib.Omega.{arith}
use lib.Dec.{eqb}
use borrow.Author.Tests.{eqb-true}
use Rattle.reads.specs.Said.{refusal, elem}
use Rattle.reads.proofs.Tests.{never, split, or_cases}
use Rattle.load.specs.Gather.{all_six, finished}
use Rattle.load.specs.Load.{entry_at, after_entry, entries_from}
use Rattle.load.specs.Formats.{ComesTo}
use Rattle.load.specs.declared.Gathered.{Gathered}
use Rattle.load.specs.declared.Entered.{Entered}
use Rattle.load.specs.declared.Loaded.{Loaded}
use Rattle.load.proofs.Refusals.{of_entries, entry_numbers}
use Rattle.load.proofs.DifferingEntry.{differs, entry_alike, entry_27}

-- an entry's number is 5, 6 or 7
entry_number : (n : ℕ) → elem n of_entries ≡ true → (4 < n) × (n < 8)
entry_number n e =
    ⊎_elim (λ t. let is = eqb-true n 5 t in (omega arith, omega arith))
    (λ u. ⊎_elim (λ t. let is = eqb-true n 6 t in (omega arith, omega arith))
    (λ v. ⊎_elim (λ t. let is = eqb-true n 7 t in (omega arith, omega arith)) (λ w. never w)
    (or_cases (eqb n 7) false v))
    (or_cases (eqb n 6) (elem n (7 ∷ [])) u))
    (or_cases (eqb n 5) (elem n (6 ∷ 7 ∷ [])) e)

module _ (s : List ℕ) where
  abbrev Strict : ℕ → ℕ → Gathered → Loaded
  Strict n k g = entries_from true s n k g

  abbrev Tolerant : ℕ → ℕ → Gathered → Loaded
  Tolerant n k g = entries_from false s n k g

  -- of the entries from number k up to, but not with, `end`, number i is the first whose format differs
  pub record First (k end i : ℕ) : Type 0 where
    pub from : k ≤ i
    pub below : i < end
    pub this : differs s i ≡ true
    pub before : (j : ℕ) → k ≤ j → j < i → differs s j ≡ false

  -- where entry number k does not differ, the first from there on is the first behind it, and the other way
  behind : (k n i : ℕ) → differs s k ≡ false → First k (k + suc n) i → First (k + 1) (k + 1 + n) i
  behind k n i e w =
      let past : k < i = ⊎_elim (λ same. never (sym e ∙ ap (differs s) same ∙ w.this)) (λ less. less) (eq-or-lt_of_le w.from) in
      record { from = omega arith; below = omega (arith, w.below); this = w.this; before = λ j a l. w.before j (omega arith) l }

  before_too : (k n i : ℕ) → differs s k ≡ false → First (k + 1) (k + 1 + n) i → First k (k + suc n) i
  before_too k n i e w = record {
    from = omega (arith, w.from);
    below = omega (arith, w.below);
    this = w.this;
    before = λ j a l. ⊎_elim (λ same. ap (differs s) (sym same) ∙ e) (λ past. w.before j (omega arith) l) (eq-or-lt_of_le a);
  }

  -- the tolerant walk from entry number k on comes to that entry
  comes_here : (n k i : ℕ) (g : Gathered) → i ≤ k → ComesTo i (Tolerant n k g)
  unfolding entries_from finished
  comes_here zero k i g h = split (all_six g.kinds) (λ t. rw t tt) (λ t. rw t (inl refl))
  comes_here (suc n) k i g h = by (λ q. comes_here n (k + 1) i q (omega arith)) (entry_at false s k g) refl where
    by : ((q : Gathered) → ComesTo i (Tolerant n (k + 1) q)) → (e : Entered) → entry_at false s k g ≡ e
        → ComesTo i (after_entry e k (λ q. Tolerant n (k + 1) q))
    by rest (Entered.Next q) is = rest q
    by rest (Entered.Refused m) is = let (above, below) = entry_number m (entry_numbers s k g m is) in inr (above, below, h)

  -- strict loading refuses the first entry that differs, where the tolerant walk comes to it, and else answers what that does
  abbrev pub Compared : ℕ → ℕ → Loaded → Loaded → Type 0
  Compared k end tolerant strict =
      ((i : ℕ) × First k end i × ComesTo i tolerant × (strict ≡ Loaded.Refused (refusal 27 i)))
      ⊎ (((i : ℕ) → First k end i → ComesTo i tolerant → ⊥) × (strict ≡ tolerant))

  pub compared : (n k : ℕ) (g : Gathered) → Compared k (k + n) (Tolerant n k g) (Strict n k g)
  unfolding entries_from
  compared zero k g = inr (λ i w c. omega (arith, w.from, w.below), refl)
  compared (suc n) k g =
      split (differs s k)
      (λ t. inl (k, record { from = omega arith; below = omega arith; this = t; before = λ j a l. absurd (omega arith) }, comes_here (suc n) k k g (omega arith), rw (entry_27 s k g t) refl))
      (λ t. rw (entry_alike s k g t) (by t (λ q. compared n (k + 1) q) (entry_at false s k g) refl)) where
        by : differs s k ≡ false → ((q : Gathered) → Compared (k + 1) (k + 1 + n) (Tolerant n (k + 1) q) (Strict n (k + 1) q))
            → (e : Entered) → entry_at false s k g ≡ e
            → Compared k (k + suc n) (after_entry e k (λ q. Tolerant n (k + 1) q)) (after_entry e k (λ q. Strict n (k + 1) q))
        by t rest (Entered.Next q) is =
            ⊎_elim (λ (i, w, c, told). inl (i, before_too k n i t w, c, told))
            (λ (none, same). inr (λ i w c. none i (behind k n i t w) c, same))
            (rest q)
        by t rest (Entered.Refused m) is =
            let (above, below) = entry_number m (entry_numbers s k g m is) in
            inr (
              λ i w c.
                  let past = (behind k n i t w).from in
                  ⊎_elim (λ eight. omega (arith, eight, below)) (λ (four, seven, at). omega (arith, at, past)) c,
              refl,
            )

-- Strict loading beside the tolerant one: it answers the same, or 27 at the first entry whose format differs, where loading comes to that entry.
use Prim.Native.Nat.{ℕ, zero, suc, ◌+◌, ◌*◌, ◌<◌}
use mathlib.Core.Path.{◌≡◌, refl, sym, subst, ap, ◌∙◌}
use mathlib.Core.Bool.{Bool, true, false, not}
use mathlib.Core.List.{List}
use mathlib.Core.Logic.{◌⊎◌, ◌↔◌, inl, inr, ⊎_elim}
use native.Mathlib.Nat.{eq-or-lt_of_le}
use native.Mathlib.Omega.{arith}
use lib.ListN.{length}
use lib.Dec.{ltb, eqb}
use borrow.Author.Tests.{ltb-true, ltb-false}
use Rattle.reads.specs.Num.{u32_at}
use Rattle.reads.specs.Said.{refusal, NumberedBy}
use Rattle.reads.specs.declared.Refusal.{Refusal}
use Rattle.reads.proofs.Tests.{never, split}
use Rattle.tables.specs.declared.Record.{Record}
use Rattle.load.specs.Gather.{nothing}
use Rattle.load.specs.Load.{entries_from, directory_count, loaded_in, loaded, loaded_strictly, of_loading, said_loaded}
use Rattle.load.specs.Formats.{Differs, FormatsAgree, FirstDiffers, ComesTo}
use Rattle.load.specs.declared.Loaded.{Loaded}
use Rattle.load.proofs.DifferingEntry.{differs, differs_is, is_differs}
use Rattle.load.proofs.Refusals.{load_pcf_refusals}
use Rattle.load.proofs.StrictWalk.{First, compared}

module _ (s : List ℕ) where
  -- of two entries that are the first to differ, none is before the other
  one_first : {i k : ℕ} → FirstDiffers s i → FirstDiffers s k → i ≡ k
  one_first {i} {k} v w =
      split (ltb i k) (λ t. absurd (w.before i (ltb-true i k t) v.differs))
      (λ t. split (ltb k i) (λ u. absurd (v.before k (ltb-true k i u) w.differs)) (λ u. omega (arith, ltb-false i k t, ltb-false k i u)))

  -- where no entry is the first to differ, none does
  none_differs : ((k : ℕ) → FirstDiffers s k → ⊥) → FormatsAgree s
  none_differs none k = below (k + 1) k (omega arith) where
    below : (n j : ℕ) → j < n → Differs s j → ⊥
    below zero j l d = omega (arith, l)
    below (suc n) j l d = ⊎_elim (λ same. none j record { differs = d; before = λ i m. below n i (omega (arith, same)) }) (λ less. below n j (omega arith) d) (eq-or-lt_of_le l)

  abbrev entries : Bool → Loaded
  entries strict = entries_from strict s (directory_count s) 0 nothing

  -- 1 to 4 refuse both alike, or both walk over the entries
  opens : ((r : Refusal) × (r.number < 5) × ((strict : Bool) → loaded_in strict s ≡ Loaded.Refused r)) ⊎ ((strict : Bool) → loaded_in strict s ≡ entries strict)
  unfolding loaded_in
  opens =
      split (ltb (length s) 8) (λ t. inl (refusal 1 0, omega arith, λ strict. rw t refl))
      (λ long. split (not (eqb (u32_at true s 0) 0x01666370)) (λ t. inl (refusal 2 0, omega arith, λ strict. rw (long, t) refl))
      (λ font. split (ltb 64 (directory_count s)) (λ t. inl (refusal 3 0, omega arith, λ strict. rw (long, font, t) refl))
      (λ few. split (ltb (length s) (8 + 16 * directory_count s)) (λ t. inl (refusal 4 0, omega arith, λ strict. rw (long, font, few, t) refl))
      (λ whole. inr (λ strict. rw (long, font, few, whole) refl)))))

  -- the first of the walk is the first of plain logic, both ways
  first_differs : {k : ℕ} → First s 0 (0 + directory_count s) k → FirstDiffers s k
  first_differs {k} w = record {
    differs = differs_is s k (omega (arith, w.below)) w.this;
    before = λ j l d. never (sym (w.before j (omega arith) l) ∙ is_differs s j d);
  }

  differs_first : {k : ℕ} → FirstDiffers s k → First s 0 (0 + directory_count s) k
  differs_first {k} w =
      let listed = w.differs.listed in
      record {
        from = omega arith;
        below = omega (arith, listed);
        this = is_differs s k w.differs;
        before = λ j a l. split (differs s j) (λ t. absurd (w.before j l (differs_is s j (omega (arith, listed)) t))) (λ t. t);
      }

  -- strict loading refuses 27 at the first entry whose format differs, where loading comes to it; and else it is loading
  pub strict_compared : ((k : ℕ) × FirstDiffers s k × ComesTo k (loaded s) × (loaded_strictly s ≡ Loaded.Refused (refusal 27 k)))
      ⊎ (((k : ℕ) → FirstDiffers s k → ComesTo k (loaded s) → ⊥) × (loaded_strictly s ≡ loaded s))
  strict_compared =
      ⊎_elim
      (λ (r, low, is).
      inr (λ k w c. ⊎_elim (λ eight. omega (arith, eight, low)) (λ (four, seven, at). omega (arith, four, low)) (rw (is false) at c), is true ∙ sym (is false)))
      (λ is.
      ⊎_elim (λ (k, w, c, told). inl (k, first_differs w, rw (is false) c, is true ∙ told))
      (λ (none, same). inr (λ k w c. none k (differs_first w) (rw (is false) at c), is true ∙ same ∙ sym (is false)))
      (compared s (directory_count s) 0 nothing))
      opens

  -- 27 at entry number k, exactly there
  pub strict_27 : (k : ℕ) → (loaded_strictly s ≡ Loaded.Refused (refusal 27 k)) ↔ (FirstDiffers s k × ComesTo k (loaded s))
  strict_27 k = (
    λ e.
        ⊎_elim (λ (i, w, c, told). subst (λ (j : ℕ). FirstDiffers s j × ComesTo j (loaded s)) (ap (λ (x : Loaded). (said_loaded x).place) (sym told ∙ e)) (w, c))
        (λ (none, same). never (subst (λ (x : Loaded). NumberedBy of_loading (said_loaded x)) (sym same ∙ e) (load_pcf_refusals s)).is)
        strict_compared,
    λ (w, c).
        ⊎_elim (λ (i, v, d, told). told ∙ ap (λ (j : ℕ). Loaded.Refused (refusal 27 j)) (one_first v w))
        (λ (none, same). absurd (none k w c))
        strict_compared,
  )

  -- else it is loading, and so where no known table's format differs
  pub strict_else : ((k : ℕ) → FirstDiffers s k → ComesTo k (loaded s) → ⊥) → loaded_strictly s ≡ loaded s
  strict_else none = ⊎_elim (λ (k, w, c, told). absurd (none k w c)) (λ (rest, same). same) strict_compared

  pub strict_agrees : FormatsAgree s → loaded_strictly s ≡ loaded s
  strict_agrees p = strict_else (λ k w c. p k w.differs)

  -- strict loading gives a record exactly when loading gives it and no known table's format differs
  pub strict_passes : (rec : Record) → (loaded_strictly s ≡ Loaded.Font rec) ↔ ((loaded s ≡ Loaded.Font rec) × FormatsAgree s)
  strict_passes rec = (
    λ e.
        ⊎_elim (λ (k, w, c, told). absurd (let z : ◌≡◌ {A = ℕ} 0 1 = (let both = sym e ∙ told in cc) in omega arith))
        (λ (none, same).
        let font = sym same ∙ e in
        (font, none_differs (λ k w. none k w (rw font tt))))
        strict_compared,
    λ (l, p). strict_agrees p ∙ l,
  )

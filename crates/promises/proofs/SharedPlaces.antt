-- Where two causes of a refusal share number and place in vetting, which of them it was, by what a caller can ask of the loaded font: 11 at
-- 0 is of the bounds if `dimensions` is refused 11, else of code 0's glyph; 18 at n is of property n if `prop_at` is refused 18 for it,
-- else of the name of code n's glyph.
use mathlib.Core.Path.{◌≡◌, refl, sym, ◌∙◌}
use mathlib.Core.Bool.{true, false}
use mathlib.Core.List.{List}
use mathlib.Core.Logic.{◌⊎◌, inl, inr, ⊎_elim}
use Prim.Native.Nat.{ℕ, ◌<◌}
use native.Mathlib.Omega.{arith}
use lib.ListN.{length}
use lib.Dec.{leb}
use borrow.Author.Tests.{leb-false}
use Rattle.reads.specs.Said.{refusal}
use Rattle.reads.proofs.Tests.{split}
use Rattle.tables.specs.Fits.{record_fits}
use Rattle.tables.specs.declared.Record.{Record}
use Rattle.load.specs.Load.{loaded}
use Rattle.load.specs.declared.Loaded.{Loaded}
use Rattle.load.proofs.Serves.{loaded_serves}
use Rattle.props.specs.Props.{prop_of, prop_at, said_prop}
use Rattle.props.specs.declared.PropFound.{PropFound}
use Rattle.place.specs.Bounds.{bounds_of, bounds_hold, bounds_sized, dimensions, said_sized}
use Rattle.vet.specs.Vet.{found_prop, prop_fault, vetted}
use Rattle.vet.specs.declared.Vetted.{Vetted}
use Rattle.vet.proofs.PassedProps.{readable_prop}
use Rattle.promises.specs.Passing.{BoundsGood}
use Rattle.promises.specs.Refusing.{PropertyFails, CodeFails}
use Rattle.promises.proofs.Vetting.{bounds_good, good_bounds, good_property}
use Rattle.promises.proofs.VettingRefuses.{fails_property, vet_refuses}

found_number : (x : PropFound) → (said_prop x).number ≡ found_prop x
found_number (PropFound.Property p) = refl
found_number (PropFound.Refused r) = refl

module _ (s : List ℕ) (rec : Record) (l : loaded s ≡ Loaded.Font rec) where
  fits : record_fits (length s) rec ≡ true
  fits = loaded_serves false s rec l

  held : bounds_hold (bounds_of rec) ≡ true → (said_sized (dimensions s rec)).number ≡ 0
  unfolding dimensions bounds_sized
  held t = rw (fits, t) refl

  not_held : bounds_hold (bounds_of rec) ≡ false → (said_sized (dimensions s rec)).number ≡ 11
  unfolding dimensions bounds_sized
  not_held t = rw (fits, t) refl

  pub eleven_apart : vetted s ≡ Vetted.Refused (refusal 11 0)
      → (((said_sized (dimensions s rec)).number ≡ 11) × (BoundsGood (bounds_of rec) → ⊥)) ⊎ (((said_sized (dimensions s rec)).number ≡ 0) × CodeFails s rec 11 0)
  eleven_apart e =
      ⊎_elim (λ (n, first). absurd (omega (arith, n)))
      (λ (agree, why).
      ⊎_elim (λ (o, n, z). absurd (omega (arith, n)))
      (⊎_elim (λ (o, bad, n, z). inl (not_held (split (bounds_hold (bounds_of rec)) (λ t. absurd (bad (bounds_good (bounds_of rec) t))) (λ t. t)), bad))
      (⊎_elim (λ (o, good, f). absurd (let n = f.number in omega (arith, n)))
      (λ (o, good, ps, f). inr (held (good_bounds (bounds_of rec) good), f)))) why)
      ((vet_refuses s rec l 11 0).0 e)

  prop_number : (n : ℕ) → (said_prop (prop_at s rec n)).number ≡ prop_fault s rec n
  unfolding prop_at prop_fault
  prop_number n = rw fits (found_number (prop_of s rec.props n))

  past_count : (n : ℕ) → leb rec.props.count n ≡ true → prop_fault s rec n ≡ 17
  unfolding prop_fault prop_of
  past_count n t = rw t refl

  pub eighteen_apart : (n : ℕ) → vetted s ≡ Vetted.Refused (refusal 18 n)
      → (((said_prop (prop_at s rec n)).number ≡ 18) × PropertyFails s rec 18 n) ⊎ (((said_prop (prop_at s rec n)).number ≡ 18 → ⊥) × CodeFails s rec 18 n)
  eighteen_apart n e =
      ⊎_elim (λ (m, first). absurd (omega (arith, m)))
      (λ (agree, why).
      ⊎_elim (λ (o, m, z). absurd (omega (arith, m)))
      (⊎_elim (λ (o, bad, m, z). absurd (omega (arith, m)))
      (⊎_elim (λ (o, good, f). inl (prop_number n ∙ (fails_property s rec fits 18 n f).fault, f))
      (λ (o, good, ps, f).
      inr (
        λ is.
            let told : prop_fault s rec n ≡ 18 = sym (prop_number n) ∙ is in
            split (leb rec.props.count n)
            (λ t. let past = past_count n t in omega (arith, told, past))
            (λ t.
            let k : n < rec.props.count = leb-false rec.props.count n t in
            let none = readable_prop s rec n k (good_property s rec fits n (ps n k)) in
            omega (arith, told, none)),
        f,
      )))) why)
      ((vet_refuses s rec l 18 n).0 e)

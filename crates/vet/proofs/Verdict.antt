-- What vetting's answer says of each of its tests, both ways.
use mathlib.Core.Path.{◌≡◌, refl, sym, subst}
use mathlib.Core.Bool.{true, false}
use mathlib.Core.List.{List}
use mathlib.Core.Logic.{◌⊎◌, ◌↔◌, inl, inr, ⊎_elim}
use Prim.Native.Nat.{ℕ}
use native.Mathlib.Nat.{zero-add}
use native.Mathlib.Omega.{arith}
use Rattle.reads.specs.Said.{refusal}
use Rattle.reads.specs.declared.Refusal.{Refusal}
use Rattle.reads.proofs.Tests.{split}
use Rattle.tables.specs.declared.Record.{Record}
use Rattle.load.specs.Load.{loaded_strictly}
use Rattle.load.specs.declared.Loaded.{Loaded}
use Rattle.bitmaps.specs.Picture.{unreadable}
use Rattle.place.specs.Bounds.{bounds_hold, bounds_of}
use Rattle.vet.specs.First.{first_fault}
use Rattle.vet.specs.Vet.{prop_fault, code_fault, after_first, vet_record, vet_loaded, vetted}
use Rattle.vet.specs.declared.First.{First}
use Rattle.vet.specs.declared.Vetted.{Vetted}
use Rattle.vet.proofs.FirstFault.{Faultless, IsFirst, none_clear, clear_none, at_first, first_at}

-- the tests of a record that pass
pub record Sound (s : List ℕ) (rec : Record) : Type 0 where
  pub readable : unreadable rec.bitmaps ≡ false
  pub bounds : bounds_hold (bounds_of rec) ≡ true
  pub properties : Faultless (prop_fault s rec) 0 rec.props.count
  pub codes : Faultless (code_fault s rec) 0 65536

-- the first test of a record that fails: "Otherwise the first failure and its place"
abbrev pub Fails : List ℕ → Record → ℕ → ℕ → Type 0
Fails s rec n place =
    ((unreadable rec.bitmaps ≡ true) × (n ≡ 13) × (place ≡ 0))
    ⊎ ((unreadable rec.bitmaps ≡ false) × (bounds_hold (bounds_of rec) ≡ false) × (n ≡ 11) × (place ≡ 0))
    ⊎ ((unreadable rec.bitmaps ≡ false) × (bounds_hold (bounds_of rec) ≡ true)
    × IsFirst (prop_fault s rec) 0 rec.props.count n place)
    ⊎ ((unreadable rec.bitmaps ≡ false) × (bounds_hold (bounds_of rec) ≡ true)
    × Faultless (prop_fault s rec) 0 rec.props.count × IsFirst (code_fault s rec) 0 65536 n place)

-- a pass, or a failure with its number and place
abbrev Holds : List ℕ → Record → Vetted → Type 0
Holds s rec (Vetted.Passed r) = (rec ≡ r) × Sound s rec
Holds s rec (Vetted.Refused r) = Fails s rec r.number r.place

module _ (s : List ℕ) (rec : Record) where
  abbrev props : First
  props = first_fault (prop_fault s rec) rec.props.count 0

  abbrev codes : First
  codes = first_fault (code_fault s rec) 65536 0

  module _ (r : unreadable rec.bitmaps ≡ false) (b : bounds_hold (bounds_of rec) ≡ true) where
    after_codes : Faultless (prop_fault s rec) 0 rec.props.count → (x : First) → codes ≡ x → Holds s rec (after_first x (Vetted.Passed rec))
    after_codes p First.Clear e = (refl, record { readable = r; bounds = b; properties = p; codes = clear_none (code_fault s rec) 65536 0 e })
    after_codes p (First.At n k) e = inr (inr (inr (r, b, p, at_first (code_fault s rec) 65536 0 n k e)))

    after_props : (x : First) → props ≡ x → Holds s rec (after_first x (after_first codes (Vetted.Passed rec)))
    after_props First.Clear e = after_codes (λ j h l. clear_none (prop_fault s rec) rec.props.count 0 e j h (omega arith)) codes refl
    after_props (First.At n k) e =
        inr (inr (inl (r, b, subst (λ end. IsFirst (prop_fault s rec) 0 end n k) (zero-add rec.props.count) (at_first (prop_fault s rec) rec.props.count 0 n k e))))

  verdict : Holds s rec (vet_record s rec)
  unfolding vet_record
  verdict =
      split (unreadable rec.bitmaps) (λ t. rw t (inl (t, refl, refl)))
      (λ r. split (bounds_hold (bounds_of rec)) (λ b. rw (r, b) (after_props r b props refl)) (λ b. rw (r, b) (inr (inl (r, b, refl, refl)))))

  props_clear : Faultless (prop_fault s rec) 0 rec.props.count → props ≡ First.Clear
  props_clear p = none_clear (prop_fault s rec) rec.props.count 0 (λ j h l. p j h (omega arith))

  sound_passes : Sound s rec → vet_record s rec ≡ Vetted.Passed rec
  unfolding vet_record
  sound_passes w =
      rw (w.readable, w.bounds, props_clear w.properties, none_clear (code_fault s rec) 65536 0 w.codes) refl

  fails_refused : (n place : ℕ) → Fails s rec n place → vet_record s rec ≡ Vetted.Refused (refusal n place)
  unfolding vet_record
  fails_refused n place =
      ⊎_elim (λ (r, e, f). rw (r, e, f) refl)
      (⊎_elim (λ (r, b, e, f). rw (r, b, e, f) refl)
      (⊎_elim
      (λ (r, b, w).
      let at = first_at (prop_fault s rec) rec.props.count 0 n place (subst (λ end. IsFirst (prop_fault s rec) 0 end n place) (sym (zero-add rec.props.count)) w) in
      rw (r, b, at) refl)
      (λ (r, b, p, w). rw (r, b, props_clear p, first_at (code_fault s rec) 65536 0 n place w) refl)))

-- vetting passes exactly when strict loading does and every test passes
pub passes_when : (s : List ℕ) (rec : Record) → (vetted s ≡ Vetted.Passed rec) ↔ ((loaded_strictly s ≡ Loaded.Font rec) × Sound s rec)
unfolding vetted
passes_when s rec = (λ e. by (loaded_strictly s) refl e, λ (l, w). rw l (sound_passes s rec w)) where
  by : (x : Loaded) → loaded_strictly s ≡ x → vet_loaded s x ≡ Vetted.Passed rec → (loaded_strictly s ≡ Loaded.Font rec) × Sound s rec
  by (Loaded.Font r) l e =
      let (same, w) = subst (Holds s r) e (verdict s r) in
      subst (λ (q : Record). (loaded_strictly s ≡ Loaded.Font q) × Sound s q) same (l, w)
  by (Loaded.Refused r) l e = let z : ◌≡◌ {A = ℕ} 0 1 = cc in absurd (omega arith)

-- a font that strict loading gave is refused exactly for the first test that fails
pub refused_when : (s : List ℕ) (rec : Record) → loaded_strictly s ≡ Loaded.Font rec
    → (n place : ℕ) → (vetted s ≡ Vetted.Refused (refusal n place)) ↔ Fails s rec n place
unfolding vetted
refused_when s rec l n place = (
  λ e.
      let v : vet_record s rec ≡ Vetted.Refused (refusal n place) = rw l at e in
      subst (Holds s rec) v (verdict s rec),
  λ w. rw l (fails_refused s rec n place w),
)

-- a font that does not load strictly is refused as strict loading refuses it
pub refused_load : (s : List ℕ) (r : Refusal) → loaded_strictly s ≡ Loaded.Refused r → vetted s ≡ Vetted.Refused r
unfolding vetted
refused_load s r e = rw e refl

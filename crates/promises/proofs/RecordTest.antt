-- A call behind the record's test: it refuses 6 exactly where that fails, so never with a record that loading gave for the same bytes.
use mathlib.Core.Path.{◌≡◌, refl, sym, ◌∙◌}
use mathlib.Core.Bool.{Bool, true, false, cond}
use mathlib.Core.List.{List, ◌∷◌}
use Prim.Native.Nat.{ℕ}
use lib.ListN.{length}
use Rattle.reads.specs.Said.{Said, refusal, refuses, elem, NumberedBy}
use Rattle.reads.specs.declared.Refusal.{Refusal}
use Rattle.reads.proofs.Numbers.{has_number, whichever, one_more, listed, not_in}
use Rattle.reads.proofs.Tests.{never, split}
use Rattle.tables.specs.Fits.{record_fits, tested, guarded}
use Rattle.tables.specs.declared.Record.{Record}
use Rattle.load.specs.Load.{loaded_in}
use Rattle.load.specs.declared.Loaded.{Loaded}
use Rattle.load.proofs.Serves.{loaded_serves}
use Rattle.promises.specs.Refusals.{Refusals}

module _ (s : List ℕ) (rec : Record) where
  -- `said` is what is read off the call's answer, or off the tests before it
  module _ {A : Type 0} (said : A → Said) (refused : Refusal → A) (tells : (r : Refusal) → said (refused r) ≡ refuses r) where
    pub tested_refusals : (answer : A) {ns : List ℕ} → elem 6 (0 ∷ ns) ≡ false → (record_fits (length s) rec ≡ true → NumberedBy ns (said answer))
        → Refusals s rec (6 ∷ ns) (said (tested refused s rec answer))
    tested_refusals answer {ns} out h =
        let test = record_fits (length s) rec in
        record {
          numbered = split test (λ t. rw t (one_more (h t))) (λ t. rw (t, tells (refusal 6 0)) (has_number refl));
          six = (
            λ e. split test (λ t. absurd (not_in (0 ∷ ns) (said answer).number 6 out (listed (h t)) (rw t at e))) (λ t. t),
            λ t. rw (t, tells (refusal 6 0)) refl,
          );
        }

    pub guarded_refusals : (within : Bool) (answer : A) {ns : List ℕ} → elem 6 (0 ∷ ns) ≡ false
        → (record_fits (length s) rec ≡ true → NumberedBy ns (said answer)) → Refusals s rec (6 ∷ 15 ∷ ns) (said (guarded refused s rec within answer))
    guarded_refusals within answer out h =
        tested_refusals (cond within answer (refused (refusal 15 0))) out
        (λ t. whichever said within (one_more (h t)) (rw (tells (refusal 15 0)) (has_number refl)))

  -- no call with a record that loading gave, strict or not, and its own bytes is refused 6
  pub loaded_never_six : (strict : Bool) {ns : List ℕ} {a : Said} → Refusals s rec ns a → loaded_in strict s ≡ Loaded.Font rec → a.number ≡ 6 → ⊥
  loaded_never_six strict x l e = never (sym (x.six.0 e) ∙ loaded_serves strict s rec l)

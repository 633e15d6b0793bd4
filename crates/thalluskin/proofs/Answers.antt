-- How an exported function comes by its answer: it makes it of what a library function found, of the case that a match finds, or of the
-- case of what a library function found. `answer` is the definition that its contract cites.
use Prim.Native.Nat.{ℕ}
use mathlib.Core.Path.{◌≡◌, sym, ap, ◌∙◌}
use mathlib.Core.Bool.{Bool}
use mathlib.Core.List.{List}
use lib.ListN.{length}
use Rattle.reads.specs.declared.Refusal.{Refusal}
use Rattle.tables.specs.Fits.{record_fits, ladder, guarded}
use Rattle.tables.specs.declared.Permit.{Permit}
use Rattle.tables.specs.declared.Record.{Record}
use Rattle.tables.proofs.Guarded.{is_guard, guarded_answers, guarded_refuses}
use Rattle.modes.specs.Modes.{is_known}

module _ {A B : Type 0} (answer : A → B) where
  pub called : (found is : A) (out : B) → out ≡ answer found → found ≡ is → out ≡ answer is
  called found is out told same = told ∙ ap answer same

  pub matched : (is case : A) (out : B) → is ≡ case → out ≡ answer case → out ≡ answer is
  matched is case out e told = told ∙ ap answer (sym e)

  pub call_matched : (found is case : A) (out : B) → found ≡ is → found ≡ case → out ≡ answer case → out ≡ answer is
  call_matched found is case out same e told = told ∙ ap answer (sym e ∙ same)

  -- behind the tests of the record and of the mode
  module _ (refused : Refusal → A) (s : List ℕ) (rec : Record) (mode : ℕ) (is : A) (out : B) (fits known : Bool) (permit : Permit)
      (fits-is : fits ≡ record_fits (length s) rec) (Known-is : known ≡ is_known mode) (permit-is : permit ≡ ladder fits known) where
    pub guard_given : (found : A) → permit ≡ Permit.Given → found ≡ is → out ≡ answer found → out ≡ answer (guarded refused s rec (is_known mode) is)
    guard_given found e same told =
        rw (← Known-is) (told ∙ ap answer (same ∙ sym (guarded_answers s rec known permit (is_guard s rec fits known permit fits-is permit-is) refused is e)))

    pub guard_refused : (r : Refusal) → permit ≡ Permit.Refused r → out ≡ answer (refused r) → out ≡ answer (guarded refused s rec (is_known mode) is)
    guard_refused r e told =
        rw (← Known-is) (told ∙ ap answer (sym (guarded_refuses s rec known permit (is_guard s rec fits known permit fits-is permit-is) refused is r e)))

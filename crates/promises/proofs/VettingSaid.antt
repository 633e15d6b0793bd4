-- Vetting answers what `VettingSays` says.
use Prim.Native.Nat.{ℕ}
use mathlib.Core.Path.{◌≡◌, refl, ap}
use mathlib.Core.List.{List}
use native.Mathlib.Omega.{arith}
use lib.ListN.{length}
use Rattle.reads.specs.Said.{Said, refusal, refuses}
use Rattle.reads.proofs.Numbers.{nought_answers}
use Rattle.tables.specs.declared.Record.{Record}
use Rattle.vet.specs.Vet.{vetted, said_vetted}
use Rattle.vet.specs.declared.Vetted.{Vetted}
use Rattle.vet.proofs.Refusals.{vet_refusals}
use Rattle.vet.proofs.Verdict.{refused_load}
use Rattle.promises.specs.Refusals.{Answers}
use Rattle.promises.specs.VettingSaid.{VettingSays}
use Rattle.promises.proofs.Vetting.{vet_passes}
use Rattle.promises.proofs.VettingRefuses.{vet_refuses}

-- an answer with the number 0 is a record, for no refusal has that number
nought_passed : (x : Vetted) → Answers (said_vetted x) → (said_vetted x).number ≡ 0 → (rec : Record) × (x ≡ Vetted.Passed rec)
nought_passed (Vetted.Passed rec) answers e = (rec, refl)
nought_passed (Vetted.Refused r) answers e = absurd (answers e refl)

-- an answer that says as a refusal does is that refusal: a record has values beside it
said_refused : (x : Vetted) (n place : ℕ) → said_vetted x ≡ refuses (refusal n place) → x ≡ Vetted.Refused (refusal n place)
said_refused (Vetted.Passed rec) n place e = let v = ap (λ (a : Said). length a.values) e in absurd (omega (arith, v))
said_refused (Vetted.Refused r) n place e =
    let number = ap (λ (a : Said). a.number) e in
    let at = ap (λ (a : Said). a.place) e in
    λ i. Vetted.Refused (refusal (number i) (at i))

pub vetting_says : (s : List ℕ) → VettingSays s
vetting_says s = record {
  passes_exactly = (
    λ e. let (rec, is) = nought_passed (vetted s) (nought_answers refl (vet_refusals s)) e in (rec, (vet_passes s rec).0 is),
    λ (rec, w). ap (λ (x : Vetted). (said_vetted x).number) ((vet_passes s rec).1 w),
  );
  passes_says = λ rec w. ap said_vetted ((vet_passes s rec).1 w);
  refused_exactly = λ rec l n place. (
    λ e. (vet_refuses s rec l n place).0 (said_refused (vetted s) n place e),
    λ w. ap said_vetted ((vet_refuses s rec l n place).1 w),
  );
  refused_loading = λ r l. ap said_vetted (refused_load s r l);
}

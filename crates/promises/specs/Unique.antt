-- "Each public function's contract determines its result [...] Prove that any two results that satisfy it are equal." The contract is
-- the one that Rattle reads from the source, with what the arguments and the results mean.
use Rattle.std.specs.Prelude.{◌≡◌, List, ℕ}
use contract.Lifetimes.{Lfts}
use borrow.Fn.Kind.{ParamKind, ResultKind}
use borrow.Fn.Kinds.{Out, Dens, res_t, ended_of}
use seplogic.Ra.Ura.{Ura}
use base.Logic.{ent, sep}
use contract.Monad.{fact}
use Rattle.std.specs.Borrow.{Bor}
use denote.Triple.Entry.{Args, Res}
use denote.Triple.Clauses.{Ended, Clauses, AtExit}

-- a contract of a function with n lifetimes, these parameters and this result: results that it allows for the same arguments are equal
abbrev pub Fixes : (n : ℕ) (ps : List (ParamKind n)) (r : ResultKind n) → Out n ps r → Type 0
Fixes n ps r Contract =
    (κs : Lfts n) (a : Dens κs ps) (r₁ r₂ : (res_t r κs).Denot) (x₁ x₂ : AtExit (ended_of n ps r) κs)
    → Contract κs a r₁ x₁ → Contract κs a r₂ x₂ → r₁ ≡ r₂

-- two parts of lent bytes are one: the same bytes, at the same place
abbrev pub SamePart : Bor (List ℕ) → Bor (List ℕ) → Type 0
SamePart p q = (p.now ≡ q.now) × (p.ref_ptr ≡ q.ref_ptr)

-- a contract that allows one part alone, of a function that returns a part of lent bytes
abbrev pub FixesPart : (n : ℕ) (ps : List (ParamKind n)) (r : ResultKind n) → Out n ps r → ((κs : Lfts n) → (res_t r κs).Denot → Bor (List ℕ)) → Type 0
FixesPart n ps r Contract part =
    (κs : Lfts n) (a : Dens κs ps) (r₁ r₂ : (res_t r κs).Denot) (x₁ x₂ : AtExit (ended_of n ps r) κs)
    → Contract κs a r₁ x₁ → Contract κs a r₂ x₂ → SamePart (part κs r₁) (part κs r₂)

-- the same of a function that is lent a buffer to write: results that it allows are equal, and so is what they leave in the buffer
abbrev pub FixesLent : (n : ℕ) (ps : List (ParamKind n)) (r : ResultKind n) → Out n ps r → ((κs : Lfts n) → AtExit (ended_of n ps r) κs → List ℕ) → Type 0
FixesLent n ps r Contract left =
    (κs : Lfts n) (a : Dens κs ps) (r₁ r₂ : (res_t r κs).Denot) (x₁ x₂ : AtExit (ended_of n ps r) κs)
    → Contract κs a r₁ x₁ → Contract κs a r₂ x₂ → (r₁ ≡ r₂) × (left κs x₁ ≡ left κs x₂)

-- the same of a function that takes or returns a view of a font, whose contract Rattle states in its logic alone: in any model, what it
-- ensures of one result and of another for the same arguments gives that they are the same
abbrev pub FixesSaid : {M : Type 1} (𝓤 : Ura M) (T : Ended) → Clauses 𝓤 T → ((κs : Lfts T.signature.lifetimes) (r₁ r₂ : Res T.signature κs) (x₁ x₂ : AtExit T κs) → Type 0) → Type 1
FixesSaid 𝓤 T contract same =
    (κs : Lfts T.signature.lifetimes) (a : Args T.signature κs) (g₁ g₂ : (contract κs a).ghost) (r₁ r₂ : Res T.signature κs) (x₁ x₂ : AtExit T κs)
    → ent 𝓤 (sep 𝓤 ((contract κs a).ensures g₁ r₁ x₁) ((contract κs a).ensures g₂ r₂ x₂)) (fact 𝓤 (same κs r₁ r₂ x₁ x₂))

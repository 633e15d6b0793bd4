-- The laws of answers numbered by a list. That a number stands in a list, or one list in another, is computed: it is cited as `refl`.
use mathlib.Core.Path.{◌≡◌, refl, sym, ap, ◌∙◌}
use mathlib.Core.Bool.{Bool, true, false, cond, ◌&&◌}
use mathlib.Core.List.{List, [], ◌∷◌}
use Prim.Native.Nat.{ℕ, ◌≤◌}
use native.Mathlib.Omega.{arith}
use lib.ListN.{length}
use lib.Dec.{eqb, leb}
use lib.IntN.{ℤ}
use borrow.Author.Tests.{eqb-true, leb-true, le-leb}
use Rattle.reads.specs.Said.{Said, says, refuses, elem, OneOf, NumberedBy}
use Rattle.reads.specs.declared.Refusal.{Refusal}
use Rattle.reads.proofs.Tests.{never, both, or_second, split}

pub has_values : {ns : List ℕ} {v : ℤ} {vs : List ℤ} → NumberedBy ns (says (v ∷ vs))
has_values = record { is = refl }

pub has_number : {ns : List ℕ} {r : Refusal} → elem r.number ns ≡ true → NumberedBy ns (refuses r)
has_number e = record { is = e }

-- a choice is numbered as both its sides are
pub whichever : {A : Type 0} (said : A → Said) (t : Bool) {ns : List ℕ} {x y : A} → NumberedBy ns (said x) → NumberedBy ns (said y) → NumberedBy ns (said (cond t x y))
whichever said true p q = p
whichever said false p q = q

-- each number of a list stands in another
abbrev pub all_in : List ℕ → List ℕ → Bool
all_in [] ms = true
all_in (n ∷ ns) ms = elem n ms && all_in ns ms

pub elem_more : (n : ℕ) (ns ms : List ℕ) → all_in ns ms ≡ true → elem n ns ≡ true → elem n ms ≡ true
elem_more n [] ms w e = never e
elem_more n (m ∷ ns) ms w e =
    let (here, rest) = both (elem m ms) (all_in ns ms) w in
    split (eqb n m) (λ t. rw (eqb-true n m t) here) (λ t. elem_more n ns ms rest (rw t at e))

module _ {ns : List ℕ} {a : Said} where
  -- a list may grow
  grown : (ms : List ℕ) → ((n : ℕ) → elem n ns ≡ true → elem n ms ≡ true) → NumberedBy ns a → NumberedBy ms a
  grown ms f h = record { is = by a.number a.values h.is } where
    by : (n : ℕ) (vs : List ℤ) → OneOf ns n vs → OneOf ms n vs
    by n [] h = f n h
    by n (v ∷ vs) h = h

  pub wider : {ms : List ℕ} → all_in ns ms ≡ true → NumberedBy ns a → NumberedBy ms a
  wider {ms} w = grown ms (λ n. elem_more n ns ms w)

  pub one_more : {m : ℕ} → NumberedBy ns a → NumberedBy (m ∷ ns) a
  one_more {m} = grown (m ∷ ns) (λ n. or_second (eqb n m) (elem n ns))

  -- the number itself is 0 or one of the list
  pub listed : NumberedBy ns a → elem a.number (0 ∷ ns) ≡ true
  listed h = by a.number a.values h.is where
    by : (n : ℕ) (vs : List ℤ) → OneOf ns n vs → elem n (0 ∷ ns) ≡ true
    by n [] h = or_second (eqb n 0) (elem n ns) h
    by n (v ∷ vs) h = rw h refl

-- no number of a list is greater than this one
abbrev pub none_above : ℕ → List ℕ → Bool
none_above most [] = true
none_above most (n ∷ ns) = leb n most && none_above most ns

elem_at_most : (most n : ℕ) (ns : List ℕ) → none_above most ns ≡ true → elem n ns ≡ true → n ≤ most
elem_at_most most n [] w e = never e
elem_at_most most n (m ∷ ns) w e =
    let (here, rest) = both (leb m most) (none_above most ns) w in
    split (eqb n m) (λ t. rw (eqb-true n m t) (leb-true m most here)) (λ t. elem_at_most most n ns rest (rw t at e))

pub at_most : {ns : List ℕ} {a : Said} (most : ℕ) → none_above most ns ≡ true → NumberedBy ns a → a.number ≤ most
at_most {ns} {a} most w h = elem_at_most most a.number (0 ∷ ns) (rw (le-leb 0 most (omega arith)) w) (listed h)

-- a number of a list is none that does not stand in it
pub not_in : (ns : List ℕ) (m n : ℕ) → elem n ns ≡ false → elem m ns ≡ true → m ≡ n → ⊥
not_in ns m n out h e = never (sym out ∙ (rw e at h))

pub the_one : (m n : ℕ) → elem m (n ∷ []) ≡ true → m ≡ n
the_one m n h = split (eqb m n) (λ t. eqb-true m n t) (λ t. never (rw t at h))

-- where 0 does not stand in the list, no answer without values has it
pub nought_answers : {ns : List ℕ} {a : Said} → elem 0 ns ≡ false → NumberedBy ns a → a.number ≡ 0 → a.values ≡ [] → ⊥
nought_answers {ns} {a} out h e none = by a.number a.values h.is e none where
  by : (n : ℕ) (vs : List ℤ) → OneOf ns n vs → n ≡ 0 → vs ≡ [] → ⊥
  by n [] h e none = not_in ns n 0 out h e
  by n (v ∷ vs) h e none = let z : length (v ∷ vs) ≡ 0 = ap length none in omega arith

-- What document 01 says of an answer: "A refusal returns its number, a place and no other value". Every answer enum has a
-- definition that gives its number, place and values in this form; 0 is the number of an answer that is no refusal.
use Rattle.std.specs.Prelude.{ℕ, ◌≡◌, Bool, true, false, ◌||◌, List, [], ◌∷◌, eqb, ℤ, pos}
use Rattle.reads.specs.declared.Refusal.{Refusal}

abbrev pub refusal : ℕ → ℕ → Refusal
refusal n place = record { number = n; place = place }

pub record Said : Type 0 where
  pub number : ℕ
  pub place : ℕ
  pub values : List ℤ

-- an answer with these values
abbrev pub says : List ℤ → Said
says values = record { number = 0; place = 0; values = values }

-- a refusal has no other value
abbrev pub refuses : Refusal → Said
refuses r = record { number = r.number; place = r.place; values = [] }

-- a yes or no among the values
abbrev pub bit : Bool → ℤ
bit true = pos 1
bit false = pos 0

-- a number stands in a list
abbrev pub elem : ℕ → List ℕ → Bool
elem n [] = false
elem n (m ∷ ms) = eqb n m || elem n ms

-- beside values the number is 0, and without them one of these
abbrev pub OneOf : List ℕ → ℕ → List ℤ → Type 0
OneOf ns n [] = elem n ns ≡ true
OneOf ns n (v ∷ vs) = n ≡ 0

-- an answer with values, or a refusal with one of these numbers
pub record NumberedBy (ns : List ℕ) (a : Said) : Type 0 where
  pub is : OneOf ns a.number a.values

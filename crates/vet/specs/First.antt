-- The first of a range of numbers that has a refusal: properties, codes. A fault is a refusal's number, 0 for none.
use Rattle.std.specs.Prelude.{ℕ, zero, suc, ◌+◌}
use Rattle.vet.specs.declared.First.{First}

abbrev pub or_first : ℕ → ℕ → First → First
or_first zero k rest = rest
or_first (suc n) k rest = First.At (suc n) k

-- of the n numbers from k on
unfoldable pub first_fault : (ℕ → ℕ) → ℕ → ℕ → First
first_fault fault zero k = First.Clear
first_fault fault (suc n) k = let rest = first_fault fault n (k + 1) in or_first (fault k) k rest

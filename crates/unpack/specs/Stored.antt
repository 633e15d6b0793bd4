-- Bits stored one after the other, of which bit c goes to place at + c, as the contracts of the inner functions name them.
use Rattle.std.specs.Prelude.{ℕ, ◌+◌, Bool, ◌&&◌, eqb, leb}
use Rattle.bitmaps.specs.Paint.{some}

-- i is the place of a set bit of the first n
unfoldable pub in_bits : (ℕ → Bool) → ℕ → ℕ → ℕ → Bool
in_bits bit at n i = some n (λ c. bit c && eqb i (at + c))

-- the place of one of them lies past a buffer of `len` bytes
unfoldable pub bits_past : (ℕ → Bool) → ℕ → ℕ → ℕ → Bool
bits_past bit at n len = some n (λ c. bit c && leb len (at + c))

-- Two pixels, one above the other, as one character in UTF-8.
use Rattle.std.specs.Prelude.{ℕ, cond, List, [], ◌∷◌, eqb}

-- the block characters U+2580 to U+259F have the same first two bytes
abbrev pub mark : ℕ → List ℕ
mark last = 226 ∷ 150 ∷ last ∷ []

-- a space, the lower half U+2584, the upper half U+2580, or the full block U+2588
unfoldable pub block : ℕ → ℕ → List ℕ
block upper lower = cond (eqb upper 0) (cond (eqb lower 0) (32 ∷ []) (mark 132)) (cond (eqb lower 0) (mark 128) (mark 136))

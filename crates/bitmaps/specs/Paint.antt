-- What colouring leaves in a buffer: each pixel that a rule has gets the colour, and every other pixel keeps its value. A rule says
-- of a place whether it has it, by searches over bounded numbers, as document 01's "A set bit [...] at row r, column c < width
-- colours [...] for a, b below scale".
use Rattle.std.specs.Prelude.{ℕ, zero, suc, Bool, false, cond, ◌||◌, List, [], ◌∷◌}

-- some number below n passes the test
unfoldable pub some : ℕ → (ℕ → Bool) → Bool
some zero f = false
some (suc n) f = some n f || f n

-- the buffer with the colour at each place that the rule has, and every other place as it was
unfoldable pub painted : (ℕ → Bool) → ℕ → List ℕ → List ℕ
painted rule colour [] = []
painted rule colour (x ∷ xs) = cond (rule zero) colour x ∷ painted (λ i. rule (suc i)) colour xs

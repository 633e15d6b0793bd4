-- The pixels of rows of bits. From document 01: "A set bit (top bit leftmost) at row r, column c < width colours
-- p + r × stride × scale + c × scale + a × stride + b for a, b below scale. Nothing stops a glyph at its line's right end."
use Rattle.std.specs.Prelude.{ℕ, ◌+◌, ◌*◌, Bool, ◌&&◌}
use Rattle.bitmaps.specs.Paint.{some}
use Rattle.bitmaps.specs.Place.{Place, row_place, column_place}

-- some pixel of one set bit, whose block begins at `at`, passes the test: "+ a × stride + b for a, b below scale"
unfoldable pub block_dot : Place → (ℕ → Bool) → Bool
block_dot at test = some at.scale (λ a. some at.scale (λ b. test (at.p + a * at.stride + b)))

-- some pixel of a set bit of one row, which begins at `at`, passes: "column c < width"; `bit c` is the bit at column c
unfoldable pub row_dot : (ℕ → Bool) → Place → ℕ → (ℕ → Bool) → Bool
row_dot bit at width test = some width (λ c. bit c && block_dot (column_place at c) test)

-- some pixel of a set bit of the first n rows passes; `bit r c` is the bit at row r, column c
unfoldable pub some_dot : (ℕ → ℕ → Bool) → Place → ℕ → ℕ → (ℕ → Bool) → Bool
some_dot bit at width n test = some n (λ r. row_dot (bit r) (row_place at r) width test)

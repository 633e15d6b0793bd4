-- What the inner functions take from each other: a line of pixels, a bar of such lines, and a byte cut to its first columns.
use Rattle.std.specs.Prelude.{ℕ, ◌+◌, ◌*◌, ◌<◌, ◌≡◌, Bool, ◌&&◌, eqb, ltb}
use Rattle.bitmaps.specs.Paint.{some}
use Rattle.bitmaps.specs.Place.{Place}
use Rattle.bitmaps.specs.Rows.{column}

-- i is one of n pixels from `at` on
unfoldable pub in_line : ℕ → ℕ → ℕ → Bool
in_line at n i = some n (λ b. eqb i (at + b))

-- some pixel of `scale` lines of `long` pixels, a stride apart, passes the test: those of a run of set bits, as one bar
unfoldable pub bar_dot : Place → ℕ → (ℕ → Bool) → Bool
bar_dot at long test = some at.scale (λ a. some long (λ b. test (at.p + a * at.stride + b)))

-- i is one of them
unfoldable pub in_bar : Place → ℕ → ℕ → Bool
in_bar at long i = bar_dot at long (λ j. eqb i j)

-- r has the first m columns of a byte, and no other set
pub record FirstColumns (byte m r : ℕ) : Type 0 where
  pub keeps : (k : ℕ) → k < 8 → column r k ≡ (ltb k m && column byte k)

-- A pixel in the plain PBM format.
use Rattle.std.specs.Prelude.{ℕ, cond, eqb}

-- '0' for a clear pixel, '1' for any other
unfoldable pub digit : ℕ → ℕ
digit pixel = cond (eqb pixel 0) 48 49

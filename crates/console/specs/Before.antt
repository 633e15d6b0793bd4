-- What a buffer has before a call.
use Rattle.std.specs.Prelude.{◌≡◌, List, ℕ, ◌+◌, ◌%◌, ◌<◌, length, get_or}

abbrev pub before : ℕ → ℕ
before i = 100 + i % 7

-- a buffer of the same length, with that value in each place
pub record Filled (old new : List ℕ) : Type 0 where
  pub same_length : length new ≡ length old
  pub each : (i : ℕ) → i < length new → get_or new i 0 ≡ before i

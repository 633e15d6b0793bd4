-- A number within bounds, both included: the bounds of codes, of a UTF-8 byte, of a digit's characters.
use Rattle.std.specs.Prelude.{ℕ, Bool, ◌&&◌, leb}

-- low <= n <= high
abbrev pub between : ℕ → ℕ → ℕ → Bool
between low high n = leb low n && leb n high

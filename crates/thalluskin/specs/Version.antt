-- The version of the archive, 0.1.0.
use Rattle.std.specs.Prelude.{ℕ}

-- 10,000 times the first number, 100 times the second, and the third
abbrev pub version : ℕ
version = 100

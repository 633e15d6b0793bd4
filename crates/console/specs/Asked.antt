-- The input of a program begins with numbers of four bytes, the least significant byte first.
use Rattle.std.specs.Prelude.{ℕ, ◌*◌, List, false}
use Rattle.reads.specs.Num.{u32_at}

-- the numbers, by their order
abbrev pub number_in : List ℕ → ℕ → ℕ
number_in s k = u32_at false s (4 * k)

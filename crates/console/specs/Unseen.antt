-- Which characters are written by their codes alone.
use Rattle.std.specs.Prelude.{ℕ, Bool, ◌||◌, leb, eqb}
use Rattle.reads.specs.Range.{between}

-- spaces, blanks and fillers, controls, and marks that take no room, as those of direction, of a line's end and of
-- variants
abbrev pub unseen : ℕ → Bool
unseen code =
    leb code 0x20
    || between 0x7F 0xA0 code
    || eqb code 0xAD
    || eqb code 0x34F
    || eqb code 0x61C
    || between 0x115F 0x1160 code
    || eqb code 0x1680
    || between 0x17B4 0x17B5 code
    || between 0x180B 0x180F code
    || between 0x2000 0x200F code
    || between 0x2028 0x202F code
    || between 0x205F 0x206F code
    || eqb code 0x2800
    || eqb code 0x3000
    || eqb code 0x3164
    || between 0xFE00 0xFE0F code
    || eqb code 0xFEFF
    || eqb code 0xFFA0
    || between 0xFFF0 0xFFFB code
    || between 0x1BCA0 0x1BCA3 code
    || between 0x1D173 0x1D17A code
    || between 0xE0000 0xE0FFF code

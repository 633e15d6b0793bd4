-- The caller's modes. From document 02: "in the caller's mode: plain stays as it is; in default mode a code without a glyph takes the
-- default code's glyph if that has one".
use Rattle.std.specs.Prelude.{ℕ, ◌%◌, Bool, false, ltb, eqb}
use Rattle.modes.specs.declared.Mode.{Mode}

-- "plain stays as it is": document 01
abbrev pub plain : Mode
plain = record { default = false }

-- a mode as a number: each field has a bit, from the lowest on
abbrev pub is_known : ℕ → Bool
is_known n = ltb n 2

abbrev pub mode_of : ℕ → Mode
mode_of n = record { default = eqb (n % 2) 1 }

-- Unicode's Table 3-7, "Well-Formed UTF-8 Byte Sequences": no overlong forms, no surrogates, nothing above U+10FFFF.
use Rattle.std.specs.Prelude.{ℕ, Bool, cond, List, [], ◌∷◌}
use Rattle.reads.specs.Range.{between}
use Rattle.utf8.specs.declared.Lead.{Lead}

-- a line of the table: the first byte's range, how many bytes the character takes, the second byte's range
pub record Line : Type 0 where
  pub from : ℕ
  pub to : ℕ
  pub lead : Lead

abbrev pub line : ℕ → ℕ → ℕ → ℕ → ℕ → Line
line from to size low high = record { from = from; to = to; lead = record { size = size; low = low; high = high } }

unfoldable pub table : List Line
table =
    line 0x00 0x7F 1 0x00 0xFF
    ∷ line 0xC2 0xDF 2 0x80 0xBF
    ∷ line 0xE0 0xE0 3 0xA0 0xBF
    ∷ line 0xE1 0xEC 3 0x80 0xBF
    ∷ line 0xED 0xED 3 0x80 0x9F
    ∷ line 0xEE 0xEF 3 0x80 0xBF
    ∷ line 0xF0 0xF0 4 0x90 0xBF
    ∷ line 0xF1 0xF3 4 0x80 0xBF
    ∷ line 0xF4 0xF4 4 0x80 0x8F
    ∷ []

-- the first line with this first byte; size 0 where there is none
unfoldable pub find : List Line → ℕ → Lead
find [] b = record { size = 0; low = 0; high = 0 }
find (l ∷ ls) b = let rest = find ls b in cond (between l.from l.to b) l.lead rest

unfoldable pub lead_of : ℕ → Lead
unfolding find table
lead_of b = find table b

-- the third and fourth byte of every line
abbrev pub continues : ℕ → Bool
continues b = between 0x80 0xBF b

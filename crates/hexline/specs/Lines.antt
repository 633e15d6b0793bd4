-- The dump's input. From document 01: "The dump reads font bytes as lines of 2 to 64 upper-case hexadecimal digits, even in number,
-- each ended by a newline; cuts between lines mean nothing"; refusal 20 "dump input: a bad line, or over 49,152 font bytes", whose
-- place is "the line's number from 1".
use Rattle.std.specs.Prelude.{ℕ, ◌+◌, ◌-◌, ◌*◌, ◌/◌, ◌%◌, Bool, true, false, cond, ◌&&◌, List, [], ◌∷◌, ◌++◌, length, ltb, leb, eqb, pos}
use Rattle.reads.specs.Range.{between}
use Rattle.reads.specs.Said.{Said, refusal, says, refuses}
use Rattle.hexline.specs.declared.HexRead.{HexRead}

-- a text's lines: those that a newline ends, and what stands after the last newline
pub record Lines : Type 0 where
  pub ended : List (List ℕ)
  pub rest : List ℕ

-- one more character in front of the first line
abbrev pub in_front : ℕ → List (List ℕ) → List ℕ → Lines
in_front c [] rest = record { ended = []; rest = c ∷ rest }
in_front c (l ∷ ls) rest = record { ended = (c ∷ l) ∷ ls; rest = rest }

unfoldable pub lines_of : List ℕ → Lines
lines_of [] = record { ended = []; rest = [] }
lines_of (c ∷ cs) =
    let later = lines_of cs in
    cond (eqb c 10) (record { ended = [] ∷ later.ended; rest = later.rest }) (in_front c later.ended later.rest)

-- the value of an upper-case hexadecimal digit; 16 for any other character
unfoldable pub digit_of : ℕ → ℕ
digit_of c =
    cond (between 48 57 c) (c - 48)
    (cond (between 65 70 c) (c - 55) 16)

unfoldable pub all_digits : List ℕ → Bool
all_digits [] = true
all_digits (c ∷ cs) = ltb (digit_of c) 16 && all_digits cs

-- "2 to 64 upper-case hexadecimal digits, even in number"
unfoldable pub good_line : List ℕ → Bool
good_line l = between 2 64 (length l) && eqb (length l % 2) 0 && all_digits l

abbrev pub is_empty : List ℕ → Bool
is_empty [] = true
is_empty (c ∷ cs) = false

abbrev pub bad_line : ℕ → HexRead
bad_line k = HexRead.Refused (refusal 20 k)

-- the lines from number k on, with n bytes before them: each one good, and no more than 49,152 bytes with it
unfoldable pub bytes_from : List (List ℕ) → List ℕ → ℕ → ℕ → HexRead
bytes_from [] rest k n = cond (is_empty rest) (HexRead.Bytes n) (bad_line k)
bytes_from (l ∷ ls) rest k n =
    let more = n + length l / 2 in
    let later = bytes_from ls rest (k + 1) more in
    cond (good_line l) (cond (leb more 49152) later (bad_line k)) (bad_line k)

-- how many bytes a text of lines has, or the first line that is bad or with which there are too many
unfoldable pub hex_read : List ℕ → HexRead
hex_read text = let l = lines_of text in bytes_from l.ended l.rest 1 0

-- the bytes of a line's digits
unfoldable pub pairs : List ℕ → List ℕ
pairs [] = []
pairs (a ∷ []) = []
pairs (a ∷ b ∷ cs) = (digit_of a * 16 + digit_of b) ∷ pairs cs

unfoldable pub all_pairs : List (List ℕ) → List ℕ
all_pairs [] = []
all_pairs (l ∷ ls) = pairs l ++ all_pairs ls

-- the font bytes: "cuts between lines mean nothing"
unfoldable pub hex_bytes : List ℕ → List ℕ
hex_bytes text = all_pairs (lines_of text).ended

abbrev pub said_hex : HexRead → Said
said_hex (HexRead.Bytes n) = says (pos n ∷ [])
said_hex (HexRead.Refused r) = refuses r

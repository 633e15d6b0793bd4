-- From codes to bytes. Unicode's Table 3-6, "UTF-8 Bit Distribution": the bytes of a code, and what a list of characters spells.
use Rattle.std.specs.Prelude.{ℕ, ◌+◌, ◌/◌, ◌%◌, ◌≡◌, cond, List, [], ◌∷◌, ◌++◌, length, ltb}
use Rattle.utf8.specs.Decode.{Char}

unfoldable pub encoded : ℕ → List ℕ
encoded c =
    cond (ltb c 0x80) (c ∷ [])
    (cond (ltb c 0x800) ((0xC0 + c / 64) ∷ (0x80 + c % 64) ∷ [])
    (cond (ltb c 0x10000) ((0xE0 + c / 4096) ∷ (0x80 + c / 64 % 64) ∷ (0x80 + c % 64) ∷ [])
    ((0xF0 + c / 262144) ∷ (0x80 + c / 4096 % 64) ∷ (0x80 + c / 64 % 64) ∷ (0x80 + c % 64) ∷ [])))

-- the bytes of the characters, one after another
abbrev pub spelled : List Char → List ℕ
spelled [] = []
spelled (c ∷ cs) = encoded c.code ++ spelled cs

-- each character stands where the bytes before it end, the first at byte i
abbrev pub InPlace : ℕ → List Char → Type 0
InPlace i [] = Unit {0}
InPlace i (c ∷ cs) = (c.byte ≡ i) × InPlace (i + length (encoded c.code)) cs

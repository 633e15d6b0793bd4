-- Numbers and bytes as upper-case hexadecimal characters, as the dump prints them.
use Rattle.std.specs.Prelude.{ℕ, ◌+◌, ◌/◌, ◌%◌, cond, List, [], ◌∷◌, ◌++◌, ltb}

-- the upper-case hexadecimal digit of a number below 16
unfoldable pub hex_digit : ℕ → ℕ
hex_digit n = cond (ltb n 10) (48 + n) (55 + n)

abbrev pub hex_byte : ℕ → List ℕ
hex_byte b = hex_digit (b / 16) ∷ hex_digit (b % 16) ∷ []

-- "four hexadecimal digits"
abbrev pub hex_four : ℕ → List ℕ
hex_four n = hex_byte (n / 256) ++ hex_byte (n % 256)

unfoldable pub hex_all : List ℕ → List ℕ
hex_all [] = []
hex_all (b ∷ bs) = hex_byte b ++ hex_all bs

-- bytes, "-" where there are none
unfoldable pub field : List ℕ → List ℕ
field [] = 45 ∷ []
field (b ∷ bs) = hex_all (b ∷ bs)

-- two fields with a space between
infixr 5 ◌␣◌
abbrev pub ◌␣◌ : List ℕ → List ℕ → List ℕ
a ␣ b = a ++ (32 ∷ b)

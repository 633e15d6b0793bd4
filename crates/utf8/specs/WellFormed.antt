-- Which texts are UTF-8, in plain logic: Unicode's Table 3-7, "Well-Formed UTF-8 Byte Sequences", with the range of every byte, and the
-- texts that are such sequences one after another. From document 01: "the first byte at which no UTF-8 character as Unicode defines it
-- starts".
use Rattle.std.specs.Prelude.{ℕ, ◌≤◌, ◌<◌, ◌≡◌, ◌⊎◌, List, [], ◌∷◌, ◌++◌, length, take, drop}

pub record Range : Type 0 where
  pub low : ℕ
  pub high : ℕ

abbrev pub range : ℕ → ℕ → Range
range low high = record { low = low; high = high }

-- every byte after the second, and most second bytes
abbrev pub tail : Range
tail = range 0x80 0xBF

unfoldable pub lines : List (List Range)
lines =
    (range 0x00 0x7F ∷ [])
    ∷ (range 0xC2 0xDF ∷ tail ∷ [])
    ∷ (range 0xE0 0xE0 ∷ range 0xA0 0xBF ∷ tail ∷ [])
    ∷ (range 0xE1 0xEC ∷ tail ∷ tail ∷ [])
    ∷ (range 0xED 0xED ∷ range 0x80 0x9F ∷ tail ∷ [])
    ∷ (range 0xEE 0xEF ∷ tail ∷ tail ∷ [])
    ∷ (range 0xF0 0xF0 ∷ range 0x90 0xBF ∷ tail ∷ tail ∷ [])
    ∷ (range 0xF1 0xF3 ∷ tail ∷ tail ∷ tail ∷ [])
    ∷ (range 0xF4 0xF4 ∷ range 0x80 0x8F ∷ tail ∷ tail ∷ [])
    ∷ []

-- as many bytes as the line has, each in its range
abbrev pub Fits : List Range → List ℕ → Type 0
Fits [] [] = Unit {0}
Fits [] (b ∷ bs) = ⊥
Fits (r ∷ rs) [] = ⊥
Fits (r ∷ rs) (b ∷ bs) = (r.low ≤ b) × (b ≤ r.high) × Fits rs bs

-- some line of these fits
abbrev pub FitsOne : List (List Range) → List ℕ → Type 0
FitsOne [] bs = ⊥
FitsOne (l ∷ ls) bs = Fits l bs ⊎ FitsOne ls bs

-- the bytes are one well-formed sequence
abbrev pub Sequence : List ℕ → Type 0
Sequence bs = FitsOne lines bs

abbrev pub Each : List (List ℕ) → Type 0
Each [] = Unit {0}
Each (q ∷ qs) = Sequence q × Each qs

abbrev pub joined : List (List ℕ) → List ℕ
joined [] = []
joined (q ∷ qs) = q ++ joined qs

-- a text is well-formed if it is such sequences one after another
pub record WellFormed (text : List ℕ) : Type 0 where
  pub parts : List (List ℕ)
  pub each : Each parts
  pub is : text ≡ joined parts

-- the first ill-formed sequence starts at byte p: what stands before is well-formed, and no sequence starts there
pub record IllFormed (text : List ℕ) (p : ℕ) : Type 0 where
  pub before : WellFormed (take p text)
  pub inside : p < length text
  pub none : (n : ℕ) → Sequence (take n (drop p text)) → ⊥

-- 19 with place p: "the first byte at which no UTF-8 character as Unicode defines it starts (0 if too long)"
abbrev pub RefusedText : List ℕ → ℕ → Type 0
RefusedText text p = ((65535 < length text) × (p ≡ 0)) ⊎ ((length text ≤ 65535) × IllFormed text p)

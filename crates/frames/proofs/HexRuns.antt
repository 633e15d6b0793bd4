-- The digits of a run of bytes: how many there are, and the digits of one byte more.
use mathlib.Core.Path.{◌≡◌, refl, ap, ◌∙◌}
use mathlib.Core.List.{List, [], ◌∷◌, ◌++◌}
use Prim.Native.Nat.{ℕ, ◌+◌, ◌*◌, ◌<◌, max}
use native.Mathlib.Numerals.{add-one}
use native.Mathlib.Omega.{arith}
use lib.ListN.{length, take, get_or}
use lib.Seq.{take-suc}
use borrow.Author.Tests.{lt-ltb, le-ltb}
use Rattle.frames.specs.Hex.{hex_byte, hex_all, field}

-- the test of a digit below ten
pub ruleset tests = (lt-ltb, le-ltb)

pub length-hex : (s : List ℕ) → length (hex_all s) ≡ 2 * length s
unfolding hex_all
length-hex [] = refl
length-hex (b ∷ s) = omega (arith, length-hex s)

pub hex-append : (a b : List ℕ) → hex_all (a ++ b) ≡ hex_all a ++ hex_all b
unfolding hex_all
hex-append [] b = refl
hex-append (x ∷ a) b = ap (λ (l : List ℕ). hex_byte x ++ l) (hex-append a b)

hex_one : (b : ℕ) → hex_all (b ∷ []) ≡ hex_byte b
unfolding hex_all
hex_one b = refl

-- one byte more at the end
pub hex_snoc : (a : List ℕ) (b : ℕ) → hex_all (a ++ (b ∷ [])) ≡ hex_all a ++ hex_byte b
hex_snoc a b = hex-append a (b ∷ []) ∙ ap (λ (l : List ℕ). hex_all a ++ l) (hex_one b)

pub take_next : (s : List ℕ) (i : ℕ) → i < length s → take (i + 1) s ≡ take i s ++ (get_or s i 0 ∷ [])
take_next s i h = rw add-one (take-suc s i 0 h)

pub hex_next : (s : List ℕ) (i : ℕ) → i < length s → hex_all (take (i + 1) s) ≡ hex_all (take i s) ++ hex_byte (get_or s i 0)
hex_next s i h = ap hex_all (take_next s i h) ∙ hex_snoc (take i s) (get_or s i 0)

pub field_none : (s : List ℕ) → length s ≡ 0 → field s ≡ 45 ∷ []
unfolding field
field_none [] h = refl
field_none (b ∷ s) h = absurd (omega (arith, h))

pub field_some : (s : List ℕ) → (length s ≡ 0 → ⊥) → field s ≡ hex_all s
unfolding field
field_some [] h = absurd (h refl)
field_some (b ∷ s) h = refl

pub ruleset fields = (field_none, field_some)

pub length-field : (s : List ℕ) → length (field s) ≡ max 1 (2 * length s)
unfolding field
length-field [] = refl
length-field (b ∷ s) = omega (arith, length-hex (b ∷ s))

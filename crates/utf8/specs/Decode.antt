-- A text's characters in order. From document 01: "for 19, the first byte at which no UTF-8 character as Unicode defines it starts".
use Rattle.std.specs.Prelude.{ℕ, zero, suc, cond, List, [], ◌∷◌, length, leb}
use Rattle.reads.specs.Said.{Said, refusal, says, refuses}
use Rattle.reads.specs.declared.Refusal.{Refusal}
use Rattle.utf8.specs.Step.{step_at}
use Rattle.utf8.specs.declared.Checked.{Checked}
use Rattle.utf8.specs.declared.Step.{Step}

-- a character: the byte where it starts, and its code
pub record Char : Type 0 where
  pub byte : ℕ
  pub code : ℕ

-- a text's characters, or the refusal
pub data Decoded : Type 0 where
  chars : List Char → Decoded
  refused : Refusal → Decoded

abbrev pub cons_char : Char → Decoded → Decoded
cons_char c (chars cs) = chars (c ∷ cs)
cons_char c (refused r) = refused r

abbrev pub after_step : Step → ℕ → (ℕ → Decoded) → Decoded
after_step (Step.Char c next) i rest = cons_char (record { byte = i; code = c.0 }) (rest next)
after_step Step.End i rest = chars []
after_step (Step.Refused r) i rest = refused r

-- the characters from byte i on, of which there are fewer than `fuel`
unfoldable pub decode_from : ℕ → List ℕ → ℕ → Decoded
decode_from zero s i = chars []
decode_from (suc fuel) s i = after_step (step_at s i) i (λ next. decode_from fuel s next)

-- a character takes a byte at least
unfoldable pub decoded : List ℕ → Decoded
decoded s = decode_from (suc (length s)) s 0

-- the characters; none of a refused text
abbrev pub chars_of : Decoded → List Char
chars_of (chars cs) = cs
chars_of (refused r) = []

-- a text is UTF-8, or 19 with its place
abbrev pub checked : Decoded → Checked
checked (chars cs) = Checked.Whole
checked (refused r) = Checked.Refused r

-- `check`: 19 for a "text too long or not UTF-8", whose place is "0 if too long"; "text at most 65,535 bytes"
unfoldable pub checked_text : List ℕ → Checked
checked_text s = cond (leb (length s) 65535) (checked (decoded s)) (Checked.Refused (refusal 19 0))

abbrev pub said_checked : Checked → Said
said_checked Checked.Whole = says []
said_checked (Checked.Refused r) = refuses r

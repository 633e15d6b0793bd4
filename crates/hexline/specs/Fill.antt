-- The font bytes put into a lent buffer. From document 01: refusal 20, "being tested before all else"; refusal 15 "an argument other
-- than the text outside its limits", here a buffer too short; "lent buffers keep their contents" on a refusal.
use Rattle.std.specs.Prelude.{ℕ, cond, List, ◌++◌, drop, ltb}
use Rattle.reads.specs.Said.{refusal}
use Rattle.hexline.specs.declared.HexRead.{HexRead}
use Rattle.hexline.specs.Lines.{hex_read, hex_bytes}

-- what was read, where its bytes find room
abbrev pub fitted : ℕ → HexRead → HexRead
fitted room (HexRead.Bytes n) = cond (ltb room n) (HexRead.Refused (refusal 15 0)) (HexRead.Bytes n)
fitted room (HexRead.Refused r) = HexRead.Refused r

-- how many bytes were put into a buffer with this room: 20, 15
unfoldable pub hex_into : List ℕ → ℕ → HexRead
hex_into text room = fitted room (hex_read text)

-- the buffer after this answer: the bytes at its start and the rest as it was, or all as it was
abbrev pub hex_leaves : List ℕ → HexRead → List ℕ → List ℕ
hex_leaves text (HexRead.Bytes n) old = hex_bytes text ++ drop n old
hex_leaves text (HexRead.Refused r) old = old

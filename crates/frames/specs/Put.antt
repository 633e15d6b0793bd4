-- The dump's lines written into a lent buffer. From document 01: "A refusal returns its number, a place and no other value; lent
-- buffers keep their contents"; 15 "an argument other than the text outside its limits", here a buffer shorter than the line.
use Rattle.std.specs.Prelude.{ℕ, ◌+◌, ◌/◌, ◌%◌, ◌≡◌, cond, List, [], ◌∷◌, ◌++◌, length, ltb, pos}
use Rattle.std.proofs.lemmas.List.Edits.{sets}
use Rattle.reads.specs.Said.{Said, refusal, says, refuses}
use Rattle.tables.specs.Fits.{tested}
use Rattle.tables.specs.declared.Record.{Record}
use Rattle.place.specs.declared.Prepared.{Prepared}
use Rattle.frames.specs.Typed.{typed}
use Rattle.frames.specs.Frames.{frame, frame_of}
use Rattle.frames.specs.Whole.{whole_glyph}
use Rattle.frames.specs.declared.Printed.{Printed}

-- `refused NN`: the word, a space, two decimal digits, a newline
abbrev pub refused_line : ℕ → List ℕ
refused_line n = typed "refused " ++ ((48 + n / 10) ∷ (48 + n % 10) ∷ 10 ∷ [])

-- a line into a buffer of `room` bytes: 15, or how many bytes it has
abbrev pub line_into : List ℕ → ℕ → Printed
line_into line room = cond (ltb room (length line)) (Printed.Refused (refusal 15 0)) (Printed.Bytes (length line))

-- what it leaves there: the line at the start and the rest as it was
abbrev pub line_leaves : List ℕ → Printed → List ℕ → List ℕ
line_leaves line (Printed.Bytes n) old = sets old 0 line
line_leaves line (Printed.Refused r) old = old

-- a glyph's line, or why there is none
abbrev pub glyph_into : List ℕ → Record → ℕ → ℕ → Prepared → Printed
glyph_into s rec code room (Prepared.Info i) = line_into (frame s rec code i) room
glyph_into s rec code room (Prepared.Refused r) = Printed.Refused r

-- `put_frame`: 6, then why there is no frame; 15 last, when the line and with it the room it needs are known
unfoldable pub frame_into : List ℕ → Record → ℕ → ℕ → Printed
frame_into s rec code room = tested Printed.Refused s rec (glyph_into s rec code room (whole_glyph s rec code))

abbrev pub frame_leaves : List ℕ → Record → ℕ → Printed → List ℕ → List ℕ
frame_leaves s rec code answer old = line_leaves (frame_of s rec code) answer old

-- `put_refused`: 15, here also of a number that has more than "two decimal digits"
unfoldable pub refused_into : ℕ → ℕ → Printed
refused_into n room = cond (ltb 99 n) (Printed.Refused (refusal 15 0)) (line_into (refused_line n) room)

abbrev pub refused_leaves : ℕ → Printed → List ℕ → List ℕ
refused_leaves n answer old = line_leaves (refused_line n) answer old

-- the numbers of a frame's refusal past the record's test
abbrev pub of_frames : List ℕ
of_frames = 9 ∷ 10 ∷ 11 ∷ 12 ∷ 13 ∷ 14 ∷ 17 ∷ 18 ∷ 15 ∷ []

abbrev pub said_printed : Printed → Said
said_printed (Printed.Bytes n) = says (pos n ∷ [])
said_printed (Printed.Refused r) = refuses r

-- what a writer did: it stored the characters `vs` from `at` on, and `next` is the place after them
pub record Put (before : List ℕ) (at : ℕ) (vs : List ℕ) (next : ℕ) (after : List ℕ) : Type 0 where
  pub up_to : next ≡ at + length vs
  pub stored : after ≡ sets before at vs
  pub same : length after ≡ length before

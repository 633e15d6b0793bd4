-- `draw_string`. From document 01: "In calls: 6, 15, 19, then the font's bounds (11 [...]), then per character"; "In a text, the
-- first character with a refusal decides"; "Answer: y + line height, and the sum of height - rows drawn."
use Rattle.std.specs.Prelude.{ℕ, ◌+◌, Bool, false, cond, ◌||◌, List, [], ◌∷◌, length, pos}
use Rattle.reads.specs.Said.{Said, refusal, says, refuses}
use Rattle.tables.specs.Fits.{guarded}
use Rattle.tables.specs.declared.Record.{Record}
use Rattle.modes.specs.declared.Mode.{Mode}
use Rattle.bitmaps.specs.Paint.{painted}
use Rattle.bitmaps.specs.Place.{place_at}
use Rattle.bitmaps.specs.Limits.{ok_place}
use Rattle.bitmaps.specs.declared.Drawn.{Drawn}
use Rattle.place.specs.Bounds.{bounds_hold, bounds_of}
use Rattle.utf8.specs.Decode.{Char, decoded, chars_of, checked_text}
use Rattle.utf8.specs.declared.Checked.{Checked}
use Rattle.text.specs.Walk.{origin, line_height, placed, placed_drawn, pen_after, in_placed}
use Rattle.text.specs.declared.Layout.{Layout}
use Rattle.text.specs.declared.Pen.{Pen}
use Rattle.text.specs.declared.Ready.{Ready}
use Rattle.text.specs.declared.TextDrawn.{TextDrawn}

-- go on with the rows that a character dropped, or refuse at the byte where it starts
abbrev pub after_char : Drawn → ℕ → (ℕ → TextDrawn) → TextDrawn
after_char (Drawn.Rows r) byte rest = rest r.dropped
after_char (Drawn.Refused r) byte rest = TextDrawn.Refused (refusal r.number byte)

-- the characters that are left, into `len` pixels, with the pen here and so many rows dropped before
unfoldable pub text_from : List ℕ → Record → Mode → Layout → ℕ → List Char → Pen → ℕ → TextDrawn
text_from s rec mode lay len [] pen dropped = TextDrawn.Done (record { height = pen.y + line_height rec lay.scale; dropped = dropped })
text_from s rec mode lay len (c ∷ cs) pen dropped =
    let p = placed s rec mode lay c.code pen in
    after_char (placed_drawn s rec lay len p) c.byte
    (λ more. text_from s rec mode lay len cs (pen_after lay p pen) (dropped + more))

-- pixel k is one that these characters colour
unfoldable pub in_text : List ℕ → Record → Mode → Layout → ℕ → List Char → Pen → ℕ → Bool
in_text s rec mode lay len [] pen k = false
in_text s rec mode lay len (c ∷ cs) pen k =
    let p = placed s rec mode lay c.code pen in
    in_placed s rec lay len p k || in_text s rec mode lay len cs (pen_after lay p pen) k

-- 19, then 11 for the bounds; else the line height
abbrev pub ready_text : Record → Layout → Checked → Ready
ready_text rec lay Checked.Whole =
    cond (bounds_hold (bounds_of rec)) (Ready.Line (line_height rec lay.scale)) (Ready.Refused (refusal 11 0))
ready_text rec lay (Checked.Refused r) = Ready.Refused r

-- what is tested before the first character: 6, 15, 19 ("text too long or not UTF-8"), 11
unfoldable pub ready : List ℕ → Record → List ℕ → Layout → Ready
ready s rec text lay =
    guarded Ready.Refused s rec (ok_place (place_at lay.start lay.stride lay.scale)) (ready_text rec lay (checked_text text))

abbrev pub when_ready : Ready → TextDrawn → TextDrawn
when_ready (Ready.Line line) answer = answer
when_ready (Ready.Refused r) answer = TextDrawn.Refused r

-- `draw_string`: "6, 15, 19, then the font's bounds [...], then per character"
unfoldable pub draw_string : List ℕ → Record → Mode → List ℕ → ℕ → Layout → TextDrawn
draw_string s rec mode text len lay = when_ready (ready s rec text lay) (text_from s rec mode lay len (chars_of (decoded text)) origin 0)

-- what `draw_string` leaves in the buffer
abbrev pub string_leaves : List ℕ → Record → Mode → List ℕ → Layout → ℕ → TextDrawn → List ℕ → List ℕ
string_leaves s rec mode text lay colour (TextDrawn.Done t) old =
    painted (in_text s rec mode lay (length old) (chars_of (decoded text)) origin) colour old
string_leaves s rec mode text lay colour (TextDrawn.Refused r) old = old

abbrev pub said_text : TextDrawn → Said
said_text (TextDrawn.Done t) = says (pos t.height ∷ pos t.dropped ∷ [])
said_text (TextDrawn.Refused r) = refuses r

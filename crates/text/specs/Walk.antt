-- The pen's walk over a text. From document 01: "Texts: x = y = 0; carriage return is skipped; newline sets x to 0 and adds the line
-- height (scale × bounds' sum) to y; a code without glyph is skipped; if x + width × scale >= wrap_at, the same as a newline first;
-- draw at start + y × stride + x; x grows by width × scale." From document 02: "Placing, characters, texts and R-1 pass the longer
-- answer on"; a newline and a carriage return are no codes to look up.
use Rattle.std.specs.Prelude.{ℕ, ◌+◌, ◌*◌, Bool, false, cond, List, leb, eqb, nat_abs}
use Rattle.reads.specs.Said.{refusal}
use Rattle.tables.specs.declared.Record.{Record}
use Rattle.modes.specs.declared.Mode.{Mode}
use Rattle.lookup.specs.Served.{served}
use Rattle.lookup.specs.declared.Served.{Served}
use Rattle.bitmaps.specs.Place.{Place, place_at}
use Rattle.bitmaps.specs.declared.Drawn.{Drawn}
use Rattle.place.specs.Bounds.{height_of, bounds_of}
use Rattle.place.specs.Info.{info_in}
use Rattle.glyphs.specs.Glyph.{nothing_drawn, glyph_drawn, in_info}
use Rattle.place.specs.declared.GlyphInfo.{GlyphInfo}
use Rattle.place.specs.declared.Prepared.{Prepared}
use Rattle.text.specs.declared.Wrap.{Wrap}
use Rattle.text.specs.declared.Layout.{Layout}
use Rattle.text.specs.declared.Pen.{Pen}
use Rattle.text.specs.declared.Placed.{Placed}

-- "x = y = 0"
abbrev pub origin : Pen
origin = record { x = 0; y = 0 }

-- "the line height (scale × bounds' sum)"
abbrev pub line_height : Record → ℕ → ℕ
line_height rec scale = scale * nat_abs (height_of (bounds_of rec))

-- "newline sets x to 0 and adds the line height [...] to y"
abbrev pub newline : ℕ → Pen → Pen
newline line pen = record { x = 0; y = pen.y + line }

-- how far a glyph moves the pen: "width × scale"
abbrev pub advance_of : Layout → GlyphInfo → ℕ
advance_of lay i = i.width * lay.scale

-- "x grows by width × scale"
abbrev pub moved : Layout → GlyphInfo → Pen → Pen
moved lay i pen = record { x = pen.x + advance_of lay i; y = pen.y }

-- "`wrap_at` is any 64-bit number or none": as one number, none is the one with every bit set
unfoldable pub wrap_of : ℕ → Wrap
wrap_of n = cond (eqb n 18446744073709551615) Wrap.Never (Wrap.At n)

-- "x + width × scale >= wrap_at"
abbrev pub reaches : Wrap → ℕ → Bool
reaches (Wrap.At w) x = leb w x
reaches Wrap.Never x = false

-- "if x + width × scale >= wrap_at, the same as a newline first"
unfoldable pub wrapped : Record → Layout → GlyphInfo → Pen → Pen
wrapped rec lay i pen = cond (reaches lay.wrap (pen.x + advance_of lay i)) (newline (line_height rec lay.scale) pen) pen

abbrev pub place_info : Record → Layout → Pen → Prepared → Placed
place_info rec lay pen (Prepared.Info i) = Placed.Glyph (wrapped rec lay i pen) i
place_info rec lay pen (Prepared.Refused r) = Placed.Refused r.number

-- "a code without glyph is skipped"
abbrev pub place_served : List ℕ → Record → Layout → Pen → Served → Placed
place_served s rec lay pen (Served.Glyph g by) = place_info rec lay pen (info_in s rec g)
place_served s rec lay pen (Served.Refused r) = Placed.Skip pen

-- what a character does with the pen here
unfoldable pub placed : List ℕ → Record → Mode → Layout → ℕ → Pen → Placed
placed s rec mode lay code pen =
    cond (eqb code 13) (Placed.Skip pen)
    (cond (eqb code 10) (Placed.Skip (newline (line_height rec lay.scale) pen))
    (place_served s rec lay pen (served s rec.codes mode code)))

-- "draw at start + y × stride + x"
abbrev pub spot : Layout → Pen → Place
spot lay pen = place_at (lay.start + pen.y * lay.stride + pen.x) lay.stride lay.scale

-- a glyph drawn with the pen there, into `len` pixels
abbrev pub drawn_from : List ℕ → Record → Layout → ℕ → Pen → GlyphInfo → Drawn
drawn_from s rec lay len pen i = glyph_drawn s rec.bitmaps i len (spot lay pen)

-- what was placed, drawn into `len` pixels
unfoldable pub placed_drawn : List ℕ → Record → Layout → ℕ → Placed → Drawn
placed_drawn s rec lay len (Placed.Skip pen) = nothing_drawn
placed_drawn s rec lay len (Placed.Glyph pen i) = drawn_from s rec lay len pen i
placed_drawn s rec lay len (Placed.Refused n) = Drawn.Refused (refusal n 0)

-- the pen after what was placed; a refused character leaves it
abbrev pub pen_after : Layout → Placed → Pen → Pen
pen_after lay (Placed.Skip pen) old = pen
pen_after lay (Placed.Glyph pen i) old = moved lay i pen
pen_after lay (Placed.Refused n) old = old

abbrev pub rows_in : Drawn → ℕ
rows_in (Drawn.Rows r) = r.drawn
rows_in (Drawn.Refused r) = 0

-- pixel k is one that what was placed colours
abbrev pub in_placed : List ℕ → Record → Layout → ℕ → Placed → ℕ → Bool
in_placed s rec lay len (Placed.Skip pen) k = false
in_placed s rec lay len (Placed.Glyph pen i) k = in_info s rec.bitmaps i (spot lay pen) (rows_in (drawn_from s rec lay len pen i)) k
in_placed s rec lay len (Placed.Refused n) k = false

-- What every call that draws keeps to, stated once: document 01's pixels, "lent buffers keep their contents" on a refusal, and what
-- follows for drawing twice and into a longer buffer.
use Rattle.std.specs.Prelude.{ℕ, ◌+◌, ◌*◌, ◌<◌, ◌≡◌, Bool, true, false, List, ◌++◌, length, get_or, eqb}
use Rattle.reads.specs.Said.{Said}
use Rattle.tables.specs.declared.BitmapData.{BitmapData}
use Rattle.tables.specs.declared.Record.{Record}
use Rattle.modes.specs.declared.Mode.{Mode}
use Rattle.bitmaps.specs.Place.{Place}
use Rattle.bitmaps.specs.Picture.{glyph_bit}
use Rattle.bitmaps.specs.Draw.{draw_bitmap, shown_leaves, said_drawn}
use Rattle.bitmaps.specs.Unpack.{unscaled, whole_columns, said_unpacked}
use Rattle.bitmaps.specs.declared.Drawn.{Drawn}
use Rattle.bitmaps.specs.declared.Unpacked.{Unpacked}
use Rattle.place.specs.declared.GlyphInfo.{GlyphInfo}
use Rattle.glyphs.specs.Glyph.{place_of, draw_glyph, glyph_leaves}
use Rattle.glyphs.specs.Char.{draw_char, char_leaves, said_char}
use Rattle.glyphs.specs.Unpack.{unpack_glyph, unpack_leaves}
use Rattle.glyphs.specs.declared.CharDrawn.{CharDrawn}

-- "A set bit [...] at row r, column c < width colours p + r × stride × scale + c × scale + a × stride + b for a, b below scale": pixel i is
-- one of those, of the first n rows
pub record Coloured (bit : ℕ → ℕ → Bool) (at : Place) (width n i : ℕ) : Type 0 where
  pub r : ℕ
  pub c : ℕ
  pub a : ℕ
  pub b : ℕ
  pub r_below : r < n
  pub c_below : c < width
  pub a_below : a < at.scale
  pub b_below : b < at.scale
  pub is_set : bit r c ≡ true
  pub is_there : i ≡ at.p + r * at.stride * at.scale + c * at.scale + a * at.stride + b

-- a call that is lent a buffer: what it answers by the buffer's length, what that answer says, and what it leaves in the buffer; with such
-- an answer, which pixels are to have the colour, and whether no row was cut
pub record Call (A : Type 0) : Type 1 where
  pub answer : ℕ → A
  pub said : A → Said
  pub leaves : A → List ℕ → List ℕ
  pub colour : ℕ
  pub coloured : A → ℕ → Type 0
  pub whole : A → Bool

-- the buffer after the call
abbrev pub after : {A : Type 0} → Call A → List ℕ → List ℕ
after call old = call.leaves (call.answer (length old)) old

-- pixel i is to have the colour
abbrev pub Lit : {A : Type 0} → Call A → List ℕ → ℕ → Type 0
Lit call old i = call.coloured (call.answer (length old)) i

pub record Keeps {A : Type 0} (call : Call A) : Type 0 where
  -- the buffer's length never changes
  pub length_kept : (old : List ℕ) → length (after call old) ≡ length old
  -- a refusal leaves the buffer
  pub refusal_leaves : (old : List ℕ) → ((call.said (call.answer (length old))).number ≡ 0 → ⊥) → after call old ≡ old
  -- each defined pixel has the colour, every other pixel keeps its value
  pub pixel_coloured : (old : List ℕ) (i : ℕ) → i < length old → Lit call old i → get_or (after call old) i 0 ≡ call.colour
  pub pixel_kept : (old : List ℕ) (i : ℕ) → i < length old → (Lit call old i → ⊥) → get_or (after call old) i 0 ≡ get_or old i 0
  -- drawing twice is drawing once, and answers the same
  pub twice_once : (old : List ℕ) → (call.answer (length (after call old)) ≡ call.answer (length old)) × (after call (after call old) ≡ after call old)
  -- drawing into a longer buffer colours the same pixels, and none of the added ones, where both accept and no row was cut
  pub longer_same : (old more : List ℕ) → call.whole (call.answer (length old)) ≡ true → call.whole (call.answer (length (old ++ more))) ≡ true
      → after call (old ++ more) ≡ after call old ++ more

-- ---- the calls

-- drawn, and no row was cut
abbrev pub whole_drawn : Drawn → Bool
whole_drawn (Drawn.Rows r) = eqb r.dropped 0
whole_drawn (Drawn.Refused r) = false

abbrev pub whole_char : CharDrawn → Bool
whole_char (CharDrawn.Glyph i r by) = eqb r.dropped 0
whole_char (CharDrawn.Refused r) = false

abbrev pub whole_unpacked : Unpacked → Bool
whole_unpacked (Unpacked.Rows n) = true
whole_unpacked (Unpacked.Refused r) = false

module _ (s : List ℕ) (b : BitmapData) (g width : ℕ) (at : Place) where
  -- the pixels of glyph g, drawn there
  abbrev pub bitmap_coloured : Drawn → ℕ → Type 0
  bitmap_coloured (Drawn.Rows r) i = Coloured (glyph_bit s b g width) at width r.drawn i
  bitmap_coloured (Drawn.Refused r) i = ⊥

  -- unpacked: "every whole row byte, columns past the width included"
  abbrev pub unpacked_coloured : Unpacked → ℕ → Type 0
  unpacked_coloured (Unpacked.Rows n) i = Coloured (glyph_bit s b g width) at (whole_columns width) n i
  unpacked_coloured (Unpacked.Refused r) i = ⊥

abbrev pub char_coloured : List ℕ → BitmapData → Place → CharDrawn → ℕ → Type 0
char_coloured s b at (CharDrawn.Glyph i r by) k = Coloured (glyph_bit s b i.glyph.0 i.width) (place_of i at) i.width r.drawn k
char_coloured s b at (CharDrawn.Refused r) k = ⊥

module _ (s : List ℕ) (rec : Record) (at : Place) where
  abbrev pub bitmap_call : ℕ → ℕ → ℕ → ℕ → Call Drawn
  bitmap_call g width height colour = record {
    answer = λ len. draw_bitmap s rec g width height len at;
    said = said_drawn;
    leaves = shown_leaves s rec.bitmaps g width at colour;
    colour = colour;
    coloured = bitmap_coloured s rec.bitmaps g width at;
    whole = whole_drawn;
  }

  abbrev pub glyph_call : Mode → GlyphInfo → ℕ → Call Drawn
  glyph_call mode i colour = record {
    answer = λ len. draw_glyph s rec mode i len at;
    said = said_drawn;
    leaves = glyph_leaves s rec i at colour;
    colour = colour;
    coloured = bitmap_coloured s rec.bitmaps i.glyph.0 i.width (place_of i at);
    whole = whole_drawn;
  }

  abbrev pub char_call : Mode → ℕ → ℕ → Call CharDrawn
  char_call mode code colour = record {
    answer = λ len. draw_char s rec mode code len at;
    said = said_char;
    leaves = char_leaves s rec at colour;
    colour = colour;
    coloured = char_coloured s rec.bitmaps at;
    whole = whole_char;
  }

-- unpacking has a start and a stride, and "scale 1"
abbrev pub unpack_call : List ℕ → Record → Mode → ℕ → ℕ → GlyphInfo → Call Unpacked
unpack_call s rec mode start stride i = record {
  answer = λ len. unpack_glyph s rec mode i len start stride;
  said = said_unpacked;
  leaves = unpack_leaves s rec i start stride;
  colour = 1;
  coloured = unpacked_coloured s rec.bitmaps i.glyph.0 i.width (place_of i (unscaled start stride));
  whole = whole_unpacked;
}

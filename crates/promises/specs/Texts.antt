-- What the panel shows of a text, in plain logic, in each mode: with a font that passed vetting, a text is refused exactly when a set bit of a drawn
-- row would colour a pixel beyond the buffer; otherwise each defined pixel has the colour, every other pixel keeps its value, and the
-- height and the dropped rows are the defined ones.
use Rattle.std.specs.Prelude.{ℕ, ◌+◌, ◌-◌, ◌*◌, ◌≤◌, ◌<◌, ◌≡◌, Bool, false, ◌⊎◌, ◌↔◌, List, [], ◌∷◌, pos, length, get_or, eqb}
use Rattle.reads.specs.Said.{Said, refusal, says, refuses}
use Rattle.tables.specs.declared.Record.{Record}
use Rattle.modes.specs.declared.Mode.{Mode}
use Rattle.bitmaps.specs.Place.{Place}
use Rattle.bitmaps.specs.Cut.{drawn_rows}
use Rattle.bitmaps.specs.Picture.{glyph_bit}
use Rattle.place.specs.declared.GlyphInfo.{GlyphInfo}
use Rattle.glyphs.specs.Glyph.{place_of}
use Rattle.vet.specs.Vet.{vetted}
use Rattle.vet.specs.declared.Vetted.{Vetted}
use Rattle.utf8.specs.Decode.{Char, decoded, chars_of}
use Rattle.utf8.specs.WellFormed.{WellFormed}
use Rattle.text.specs.Walk.{origin, line_height, placed, pen_after, spot}
use Rattle.text.specs.Text.{draw_string, string_leaves, said_text}
use Rattle.text.specs.declared.Layout.{Layout}
use Rattle.text.specs.declared.Pen.{Pen}
use Rattle.text.specs.declared.Placed.{Placed}
use Rattle.text.specs.declared.TextDrawn.{TextDrawn}
use Rattle.promises.specs.Drawing.{Coloured, Call}

-- ---- the glyphs of a text

-- a glyph that a text draws: the byte where its character starts, where the pen stands, its box
pub record Spot : Type 0 where
  pub byte : ℕ
  pub pen : Pen
  pub info : GlyphInfo

-- a character's glyph before those of the characters after it
abbrev pub spot_before : ℕ → Placed → List Spot → List Spot
spot_before byte (Placed.Skip pen) rest = rest
spot_before byte (Placed.Glyph pen i) rest = record { byte = byte; pen = pen; info = i } ∷ rest
spot_before byte (Placed.Refused n) rest = rest

module _ (s : List ℕ) (rec : Record) (mode : Mode) (lay : Layout) where
  -- the glyphs that these characters draw with the pen here
  unfoldable pub spots_from : List Char → Pen → List Spot
  spots_from [] pen = []
  spots_from (c ∷ cs) pen = let p = placed s rec mode lay c.code pen in spot_before c.byte p (spots_from cs (pen_after lay p pen))

  -- where the pen stands after them
  unfoldable pub end_from : List Char → Pen → Pen
  end_from [] pen = pen
  end_from (c ∷ cs) pen = end_from cs (pen_after lay (placed s rec mode lay c.code pen) pen)

  -- of a whole text
  abbrev pub spots_of : List ℕ → List Spot
  spots_of text = spots_from (chars_of (decoded text)) origin

  abbrev pub end_of : List ℕ → Pen
  end_of text = end_from (chars_of (decoded text)) origin

-- it holds of some glyph
abbrev pub Some : (Spot → Type 0) → List Spot → Type 0
Some P [] = ⊥
Some P (x ∷ xs) = P x ⊎ Some P xs

module _ (lay : Layout) (len : ℕ) where
  -- p: "draw at start + y × stride + x", lowered and moved right by the pads
  abbrev pub spot_place : Spot → Place
  spot_place x = place_of x.info (spot lay x.pen)

  -- rows drawn, into `len` pixels
  abbrev pub spot_rows : Spot → ℕ
  spot_rows x = drawn_rows len (spot_place x) x.info.height

  -- "the sum of height - rows drawn"
  abbrev pub dropped_rows : List Spot → ℕ
  dropped_rows [] = 0
  dropped_rows (x ∷ xs) = x.info.height - spot_rows x + dropped_rows xs

  module _ (s : List ℕ) (rec : Record) where
    -- pixel i is one of a set bit of a drawn row of this glyph
    abbrev pub Inked : ℕ → Spot → Type 0
    Inked i x = Coloured (glyph_bit s rec.bitmaps x.info.glyph.0 x.info.width) (spot_place x) x.info.width (spot_rows x) i

    -- a set bit of a drawn row would colour a pixel beyond the buffer
    abbrev pub Beyond : Spot → Type 0
    Beyond x = (i : ℕ) × (len ≤ i) × Inked i x

    -- the first glyph of which that holds is that of the character at byte p
    abbrev pub FirstBeyond : ℕ → List Spot → Type 0
    FirstBeyond p [] = ⊥
    FirstBeyond p (x ∷ xs) = ((x.byte ≡ p) × Beyond x) ⊎ ((Beyond x → ⊥) × FirstBeyond p xs)

-- ---- the promise

-- "A passed font is such bytes with the record that loading gave for them"; a well-formed text, and arguments within their limits
pub record Given (s : List ℕ) (rec : Record) (text : List ℕ) (lay : Layout) : Type 0 where
  pub passed : vetted s ≡ Vetted.Passed rec
  pub well_formed : WellFormed text
  pub short : length text ≤ 65535
  pub start_high : lay.start ≤ 2147483647
  pub stride_low : 1 ≤ lay.stride
  pub stride_high : lay.stride ≤ 65535
  pub scale_low : 1 ≤ lay.scale
  pub scale_high : lay.scale ≤ 64

-- the answer is a refusal
abbrev pub IsRefusal : Said → Type 0
IsRefusal a = a.number ≡ 0 → ⊥

module _ (s : List ℕ) (rec : Record) (mode : Mode) (text : List ℕ) (lay : Layout) (colour : ℕ) (old : List ℕ) where
  abbrev pub answer : TextDrawn
  answer = draw_string s rec mode text (length old) lay

  -- number, place and values of the answer
  abbrev pub said : Said
  said = said_text answer

  -- the buffer after the call
  abbrev pub new : List ℕ
  new = string_leaves s rec mode text lay colour answer old

  -- a set bit of a drawn row of some glyph would colour a pixel beyond the buffer
  abbrev pub SomeBeyond : Type 0
  SomeBeyond = Some (Beyond lay (length old) s rec) (spots_of s rec mode lay text)

  -- pixel i is a defined one
  abbrev pub Defined : ℕ → Type 0
  Defined i = Some (Inked lay (length old) s rec i) (spots_of s rec mode lay text)

  -- "y + line height"
  abbrev pub height : ℕ
  height = (end_of s rec mode lay text).y + line_height rec lay.scale

  pub record Shown : Type 0 where
    -- refused exactly when
    pub refused_exactly : IsRefusal said ↔ SomeBeyond
    -- and then with 16 at the byte of the first such character
    pub refused_where : (n p : ℕ) → (said ≡ refuses (refusal n p)) ↔ ((n ≡ 16) × FirstBeyond lay (length old) s rec p (spots_of s rec mode lay text))
    -- and the buffer is as it was
    pub refused_leaves_lem : SomeBeyond → new ≡ old
    -- otherwise the answer is the height and the dropped rows
    pub drawn_says : (SomeBeyond → ⊥) → said ≡ says (pos height ∷ pos (dropped_rows lay (length old) (spots_of s rec mode lay text)) ∷ [])
    -- each defined pixel has the colour, every other pixel keeps its value
    pub pixel_coloured : (SomeBeyond → ⊥) → (i : ℕ) → i < length old → Defined i → get_or new i 0 ≡ colour
    pub pixel_kept : (i : ℕ) → i < length old → (Defined i → ⊥) → get_or new i 0 ≡ get_or old i 0
    pub length_kept : length new ≡ length old
    -- "The height never exceeds the line height times one more than the text's bytes"
    pub height_most : height ≤ line_height rec lay.scale * (length text + 1)

-- ---- a text as a call that draws, with any font

-- an answer, with the length of the buffer that it was given for: the rows depend on it
pub record TextAnswer : Type 0 where
  pub len : ℕ
  pub drawn : TextDrawn

-- drawn, and no row was cut
abbrev pub whole_text : TextDrawn → Bool
whole_text (TextDrawn.Done t) = eqb t.dropped 0
whole_text (TextDrawn.Refused r) = false

module _ (s : List ℕ) (rec : Record) (mode : Mode) (text : List ℕ) (lay : Layout) where
  -- pixel i is one of this glyph, where it has a bitmap: "texts treat 12 as nothing drawn"
  abbrev pub InkedAny : ℕ → ℕ → Spot → Type 0
  InkedAny len i x = (x.info.glyph.0 < rec.bitmaps.count) × Inked lay len s rec i x

  abbrev pub text_coloured : ℕ → TextDrawn → ℕ → Type 0
  text_coloured len (TextDrawn.Done t) i = Some (InkedAny len i) (spots_of s rec mode lay text)
  text_coloured len (TextDrawn.Refused r) i = ⊥

  abbrev pub string_call : ℕ → Call TextAnswer
  string_call colour = record {
    answer = λ len. record { len = len; drawn = draw_string s rec mode text len lay };
    said = λ a. said_text a.drawn;
    leaves = λ a. string_leaves s rec mode text lay colour a.drawn;
    colour = colour;
    coloured = λ a. text_coloured a.len a.drawn;
    whole = λ a. whole_text a.drawn;
  }

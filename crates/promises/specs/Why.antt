-- What each reason says of the font's bytes and of the arguments, in plain logic, and which stand before which. From document 02: "names one
-- reason: code above 65,535, outside the first-byte bounds (unless both are 0), outside the second-byte bounds (the whole code if they are),
-- entry 65,535, refusals 10 to 14 or 16, rows cut with how many, no set bit in the drawn rows, or drawn. The first in this order is given and
-- proved true of the font"; "Placing, characters, texts and R-1 pass the longer answer on (R-1's first four reasons only with 9)".
use Rattle.std.specs.Prelude.{ℕ, ◌+◌, ◌-◌, ◌*◌, ◌/◌, ◌%◌, ◌≤◌, ◌<◌, ◌≡◌, Bool, true, cond, List, ◌⊎◌, length}
use Rattle.reads.specs.Num.{u16_at}
use Rattle.reads.specs.Said.{refusal}
use Rattle.reads.specs.declared.Refusal.{Refusal}
use Rattle.tables.specs.Fits.{record_fits}
use Rattle.tables.specs.declared.BitmapData.{BitmapData}
use Rattle.tables.specs.declared.EncodingData.{EncodingData}
use Rattle.tables.specs.declared.Record.{Record}
use Rattle.modes.specs.declared.Mode.{Mode}
use Rattle.lookup.specs.Lookup.{slot_of}
use Rattle.lookup.specs.Served.{itself}
use Rattle.lookup.specs.declared.Slot.{Slot}
use Rattle.lookup.specs.declared.Supplier.{Supplier}
use Rattle.metrics.specs.Measure.{glyph_metrics}
use Rattle.bitmaps.specs.Place.{Place}
use Rattle.bitmaps.specs.Cut.{drawn_rows}
use Rattle.bitmaps.specs.Units.{order_of, byte_of}
use Rattle.bitmaps.specs.Picture.{no_bitmap, row_of, glyph_bit}
use Rattle.place.specs.Bounds.{bounds_of}
use Rattle.place.specs.Info.{box_of}
use Rattle.place.specs.declared.GlyphInfo.{GlyphInfo}
use Rattle.glyphs.specs.Glyph.{place_of}
use Rattle.glyphs.specs.declared.CharDrawn.{CharDrawn}
use Rattle.why.specs.declared.Reason.{Reason}
use Rattle.why.specs.declared.Told.{Told}
use Rattle.promises.specs.Drawing.{Coloured}
use Rattle.promises.specs.Passing.{MetricsGood, OrderGood}
use Rattle.promises.specs.Serving.{ShownBy, Unshown}

-- ---- a code and its table

-- the first-byte bounds: "both are 0"
abbrev pub BothNought : EncodingData → Type 0
BothNought c = (c.low1 ≡ 0) × (c.high1 ≡ 0)

abbrev pub Outside : ℕ → ℕ → ℕ → Type 0
Outside low high n = (n < low) ⊎ (high < n)

-- "outside the first-byte bounds (unless both are 0)"
abbrev pub FirstOutside : EncodingData → ℕ → Type 0
FirstOutside c code = (BothNought c → ⊥) × Outside c.low1 c.high1 (code / 256)

-- "outside the second-byte bounds (the whole code if they are)"
abbrev pub SecondOutside : EncodingData → ℕ → Type 0
SecondOutside c code = (BothNought c × Outside c.low2 c.high2 code) ⊎ ((BothNought c → ⊥) × Outside c.low2 c.high2 (code % 256))

-- "entry 65,535"
pub record EntryEmpty (s : List ℕ) (c : EncodingData) (code : ℕ) : Type 0 where
  pub index : ℕ
  pub stands : slot_of c code ≡ Slot.At index
  pub empty : u16_at c.big s (c.entries + 2 * index) ≡ 65535

-- one of the four, which are why a code has no glyph
abbrev pub WithoutGlyph : List ℕ → EncodingData → ℕ → Type 0
WithoutGlyph s c code = (65535 < code) ⊎ (FirstOutside c code ⊎ (SecondOutside c code ⊎ EntryEmpty s c code))

-- ---- a glyph, drawn with `at` into `len` pixels

abbrev pub box_in : List ℕ → Record → ℕ → GlyphInfo
box_in s rec g = box_of (record { 0 = g }) (glyph_metrics s rec.metrics g) (bounds_of rec).ascent

module _ (s : List ℕ) (rec : Record) (len : ℕ) (at : Place) (g : ℕ) where
  -- rows drawn
  abbrev pub rows_in : ℕ
  rows_in = drawn_rows len (place_of (box_in s rec g) at) (box_in s rec g).height

  abbrev pub bit_in : ℕ → ℕ → Bool
  bit_in r c = glyph_bit s rec.bitmaps g (box_in s rec g).width r c

  -- 14: "the byte that really holds the column", of a drawn row, lies beyond the bitmap data
  pub record ByteBeyond : Type 0 where
    pub r : ℕ
    pub c : ℕ
    pub r_below : r < rows_in
    pub c_below : c < (box_in s rec g).width
    pub beyond : rec.bitmaps.size ≤ row_of s rec.bitmaps g (box_in s rec g).width r + byte_of (order_of rec.bitmaps) c

  -- 16: a pixel of a set bit of a drawn row lies beyond the buffer
  pub record PixelBeyond : Type 0 where
    pub i : ℕ
    pub beyond : len ≤ i
    pub coloured : Coloured bit_in (place_of (box_in s rec g) at) (box_in s rec g).width rows_in i

  -- "rows cut with how many"
  abbrev pub Cut : ℕ → Type 0
  Cut n = (rows_in < (box_in s rec g).height) × (n ≡ (box_in s rec g).height - rows_in)

  -- some bit of the drawn rows is set
  pub record SomeSet : Type 0 where
    pub r : ℕ
    pub c : ℕ
    pub r_below : r < rows_in
    pub c_below : c < (box_in s rec g).width
    pub is_set : bit_in r c ≡ true

-- it holds of the glyph that shows the code in this mode
pub record OfGlyph (s : List ℕ) (rec : Record) (mode : Mode) (code : ℕ) (P : ℕ → Type 0) : Type 0 where
  pub glyph : ℕ
  pub by : Supplier
  pub shown : ShownBy s rec mode code glyph by
  pub holds : P glyph

-- "only with 9": it holds of the code asked for, which no glyph shows in this mode
pub record OfCode (s : List ℕ) (rec : Record) (mode : Mode) (code : ℕ) (P : Type 0) : Type 0 where
  pub unshown : Unshown s rec mode code
  pub holds : P

-- ---- the reasons

-- what a reason says
abbrev pub TrueOf : List ℕ → Record → Mode → ℕ → ℕ → Place → Reason → Type 0
TrueOf s rec mode code len at Reason.AboveCodes = OfCode s rec mode code (65535 < code)
TrueOf s rec mode code len at Reason.FirstByte = OfCode s rec mode code (FirstOutside rec.codes code)
TrueOf s rec mode code len at Reason.SecondByte = OfCode s rec mode code (SecondOutside rec.codes code)
TrueOf s rec mode code len at Reason.EmptyEntry = OfCode s rec mode code (EntryEmpty s rec.codes code)
TrueOf s rec mode code len at Reason.NoMetrics = OfGlyph s rec mode code (λ g. rec.metrics.count ≤ g)
TrueOf s rec mode code len at Reason.BadMetrics = OfGlyph s rec mode code (λ g. MetricsGood (glyph_metrics s rec.metrics g) (bounds_of rec).ascent → ⊥)
TrueOf s rec mode code len at Reason.NoBitmap = OfGlyph s rec mode code (λ g. rec.bitmaps.count ≤ g)
TrueOf s rec mode code len at Reason.BitOrder = OrderGood rec.bitmaps → ⊥
TrueOf s rec mode code len at Reason.BitmapShort = OfGlyph s rec mode code (λ g. ByteBeyond s rec len at g)
TrueOf s rec mode code len at Reason.BufferShort = OfGlyph s rec mode code (λ g. PixelBeyond s rec len at g)
TrueOf s rec mode code len at (Reason.RowsCut n) = OfGlyph s rec mode code (λ g. Cut s rec len at g n)
TrueOf s rec mode code len at Reason.Blank = OfGlyph s rec mode code (λ g. SomeSet s rec len at g → ⊥)
TrueOf s rec mode code len at Reason.Drawn = OfGlyph s rec mode code (λ g. SomeSet s rec len at g)

-- "in this order"
abbrev pub rank : Reason → ℕ
rank Reason.AboveCodes = 0
rank Reason.FirstByte = 1
rank Reason.SecondByte = 2
rank Reason.EmptyEntry = 3
rank Reason.NoMetrics = 4
rank Reason.BadMetrics = 5
rank Reason.NoBitmap = 6
rank Reason.BitOrder = 7
rank Reason.BitmapShort = 8
rank Reason.BufferShort = 9
rank (Reason.RowsCut n) = 10
rank Reason.Blank = 11
rank Reason.Drawn = 12

-- "The first in this order": it is true, and none before it is
pub record FirstTrue (s : List ℕ) (rec : Record) (mode : Mode) (code len : ℕ) (at : Place) (reason : Reason) : Type 0 where
  pub is_true : TrueOf s rec mode code len at reason
  pub none_before : (other : Reason) → rank other < rank reason → TrueOf s rec mode code len at other → ⊥

-- the code that the reason speaks of: the one that supplied the glyph, or the one asked for, which no glyph shows
abbrev pub SpokenOf : List ℕ → Record → Mode → ℕ → Supplier → Type 0
SpokenOf s rec mode code by = ((g : ℕ) × ShownBy s rec mode code g by) ⊎ (Unshown s rec mode code × (by ≡ itself code))

-- neither 6 nor 15 refuses
pub record Askable (s : List ℕ) (rec : Record) (at : Place) : Type 0 where
  pub fits : record_fits (length s) rec ≡ true
  pub start_high : at.p ≤ 2147483647
  pub stride_low : 1 ≤ at.stride
  pub stride_high : at.stride ≤ 65535
  pub scale_low : 1 ≤ at.scale
  pub scale_high : at.scale ≤ 64

-- the reasons that there can be with a passed font
abbrev pub OfPassed : Reason → Type 0
OfPassed Reason.AboveCodes = Unit {0}
OfPassed Reason.FirstByte = Unit {0}
OfPassed Reason.SecondByte = Unit {0}
OfPassed Reason.EmptyEntry = Unit {0}
OfPassed Reason.NoMetrics = ⊥
OfPassed Reason.BadMetrics = ⊥
OfPassed Reason.NoBitmap = ⊥
OfPassed Reason.BitOrder = ⊥
OfPassed Reason.BitmapShort = ⊥
OfPassed Reason.BufferShort = Unit {0}
OfPassed (Reason.RowsCut n) = Unit {0}
OfPassed Reason.Blank = Unit {0}
OfPassed Reason.Drawn = Unit {0}

-- ---- drawing the same character

-- what came of it: a refusal, nothing for want of a bitmap, or rows, of which so many were dropped
pub data Outcome : Type 0 where
  refused : Refusal → Outcome
  unpictured : Outcome
  rows : ℕ → Outcome

abbrev pub outcome_of : BitmapData → CharDrawn → Outcome
outcome_of b (CharDrawn.Glyph i r by) = cond (no_bitmap b i.glyph.0) unpictured (rows r.dropped)
outcome_of b (CharDrawn.Refused r) = refused r

-- what goes with each reason; 9 with the first four
abbrev pub outcome_with : Reason → Outcome
outcome_with Reason.AboveCodes = refused (refusal 9 0)
outcome_with Reason.FirstByte = refused (refusal 9 0)
outcome_with Reason.SecondByte = refused (refusal 9 0)
outcome_with Reason.EmptyEntry = refused (refusal 9 0)
outcome_with Reason.NoMetrics = refused (refusal 10 0)
outcome_with Reason.BadMetrics = refused (refusal 11 0)
outcome_with Reason.NoBitmap = unpictured
outcome_with Reason.BitOrder = refused (refusal 13 0)
outcome_with Reason.BitmapShort = refused (refusal 14 0)
outcome_with Reason.BufferShort = refused (refusal 16 0)
outcome_with (Reason.RowsCut n) = rows n
outcome_with Reason.Blank = rows 0
outcome_with Reason.Drawn = rows 0

abbrev pub told_outcome : Told → Outcome
told_outcome (Told.Because reason by) = outcome_with reason
told_outcome (Told.Refused r) = refused r

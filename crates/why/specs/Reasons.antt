-- Why a character is not on the glass, or is. From document 02: "names one reason: code above 65,535, outside the first-byte bounds (unless
-- both are 0), outside the second-byte bounds (the whole code if they are), entry 65,535, refusals 10 to 14 or 16, rows cut with how many, no
-- set bit in the drawn rows, or drawn. The first in this order is given"; "Placing, characters, texts and R-1 pass the longer answer on
-- (R-1's first four reasons only with 9)".
use Rattle.std.specs.Prelude.{ℕ, ◌-◌, Bool, cond, List, leb, ltb}
use Rattle.reads.specs.declared.GlyphIndex.{GlyphIndex}
use Rattle.tables.specs.declared.BitmapData.{BitmapData}
use Rattle.tables.specs.declared.EncodingData.{EncodingData}
use Rattle.tables.specs.declared.MetricsUnpacked.{MetricsUnpacked}
use Rattle.tables.specs.declared.Record.{Record}
use Rattle.modes.specs.declared.Mode.{Mode}
use Rattle.lookup.specs.Served.{itself, served}
use Rattle.lookup.specs.declared.Served.{Served}
use Rattle.metrics.specs.Measure.{glyph_metrics}
use Rattle.bitmaps.specs.Paint.{some}
use Rattle.bitmaps.specs.Place.{Place}
use Rattle.bitmaps.specs.Cut.{drawn_rows}
use Rattle.bitmaps.specs.Picture.{no_bitmap, unreadable, rows_short, glyph_bit, pixel_past}
use Rattle.place.specs.Bounds.{bounds_of}
use Rattle.place.specs.Info.{placeable, box_of}
use Rattle.place.specs.declared.GlyphInfo.{GlyphInfo}
use Rattle.glyphs.specs.Glyph.{place_of}
use Rattle.why.specs.Codes.{first_outside, second_outside}
use Rattle.why.specs.declared.Reason.{Reason}
use Rattle.why.specs.declared.Told.{Told}

-- some bit of glyph g is set in its first n rows, below its width
unfoldable pub some_bit : List ℕ → BitmapData → ℕ → ℕ → ℕ → Bool
some_bit s b g width n = some n (λ r. some width (λ c. glyph_bit s b g width r c))

-- "rows cut with how many, no set bit in the drawn rows, or drawn", of a glyph of which n rows are drawn
abbrev pub drawn_reason : List ℕ → BitmapData → GlyphInfo → ℕ → Reason
drawn_reason s b i n =
    cond (ltb n i.height) (Reason.RowsCut (i.height - n))
    (cond (some_bit s b i.glyph.0 i.width n) Reason.Drawn Reason.Blank)

-- a glyph whose bitmap can be read, at its place: 14, 16, then these
abbrev pub rows_reason : List ℕ → BitmapData → GlyphInfo → ℕ → Place → Reason
rows_reason s b i len p =
    let g = i.glyph.0 in
    let n = drawn_rows len p i.height in
    cond (rows_short s b g i.width n) Reason.BitmapShort
    (cond (pixel_past s b g i.width i.width p n len) Reason.BufferShort
    (drawn_reason s b i n))

-- a placed glyph: 12, 13, then these
unfoldable pub placed_reason : List ℕ → BitmapData → GlyphInfo → ℕ → Place → Reason
placed_reason s b i len at =
    cond (no_bitmap b i.glyph.0) Reason.NoBitmap
    (cond (unreadable b) Reason.BitOrder (rows_reason s b i len (place_of i at)))

-- a glyph with these metrics: 11, then those of its box
abbrev pub measured_reason : List ℕ → Record → GlyphIndex → ℕ → Place → MetricsUnpacked → Reason
measured_reason s rec g len at m =
    cond (placeable m (bounds_of rec).ascent) (placed_reason s rec.bitmaps (box_of g m (bounds_of rec).ascent) len at) Reason.BadMetrics

-- a glyph: 10, then those of its metrics
unfoldable pub glyph_reason : List ℕ → Record → GlyphIndex → ℕ → Place → Reason
glyph_reason s rec g len at =
    cond (leb rec.metrics.count g.0) Reason.NoMetrics (measured_reason s rec g len at (glyph_metrics s rec.metrics g.0))

-- a code without a glyph to show it: "code above 65,535, outside the first-byte bounds [...], outside the second-byte bounds [...], entry
-- 65,535"
unfoldable pub code_reason : EncodingData → ℕ → Reason
code_reason c code =
    cond (ltb 65535 code) Reason.AboveCodes
    (cond (first_outside c code) Reason.FirstByte
    (cond (second_outside c code) Reason.SecondByte Reason.EmptyEntry))

-- "R-1's first four reasons only with 9", and of the code asked for; the others of the glyph, with the code that supplied it
abbrev pub served_reason : List ℕ → Record → ℕ → ℕ → Place → Served → Told
served_reason s rec code len at (Served.Glyph g by) = Told.Because (glyph_reason s rec g len at) by
served_reason s rec code len at (Served.Refused r) = Told.Because (code_reason rec.codes code) (itself code)

-- a character in this mode: "The first in this order is given"
unfoldable pub reason_of : List ℕ → Record → Mode → ℕ → ℕ → Place → Told
reason_of s rec mode code len at = served_reason s rec code len at (served s rec.codes mode code)

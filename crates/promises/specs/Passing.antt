-- When a font passes vetting, in plain logic. From document 01, "Vetting": "Passes when loading does and, in this order: no 13; the
-- bounds hold (11); every property's strings end (18); then for each code 0 to 65,535 that has a glyph: 10, 11, 12, 14 over all rows,
-- 17, 18 don't occur." From document 02: "13 remains for unit code 3 and for a unit wider than the row pad; 14 concerns the byte that
-- really holds the column"; "Strict loading refuses a known table whose own format word differs from its directory entry's [...] vetting uses
-- the strict one, and demand 3 gains this condition".
use Rattle.std.specs.Prelude.{ℕ, ◌+◌, ◌*◌, ◌≤◌, ◌<◌, ◌≡◌, List, ℤ, pos, nat_abs, ◌≤ℤ◌}
use Rattle.reads.specs.Num.{byte_at, u32_at}
use Rattle.tables.specs.declared.BitmapData.{BitmapData}
use Rattle.tables.specs.declared.GlyphNameData.{GlyphNameData}
use Rattle.tables.specs.declared.MetricsUnpacked.{MetricsUnpacked}
use Rattle.tables.specs.declared.PropertiesData.{PropertiesData}
use Rattle.tables.specs.declared.Record.{Record}
use Rattle.load.specs.Load.{loaded}
use Rattle.load.specs.Formats.{FormatsAgree}
use Rattle.load.specs.declared.Loaded.{Loaded}
use Rattle.lookup.specs.Lookup.{glyph_of}
use Rattle.lookup.specs.declared.Found.{Found}
use Rattle.names.specs.Strings.{EndsIn}
use Rattle.metrics.specs.Measure.{glyph_metrics}
use Rattle.bitmaps.specs.Units.{order_of, unit_bytes, byte_of}
use Rattle.bitmaps.specs.Picture.{row_of}
use Rattle.place.specs.Bounds.{height_of, bounds_of}

-- this code has this glyph
abbrev pub HasGlyph : List ℕ → Record → ℕ → ℕ → Type 0
HasGlyph s rec code g = glyph_of s rec.codes code ≡ Found.Glyph (record { 0 = g })

-- not 11, of the bounds: "ascent and width at least 0, the sum 0 to 32,767"
pub record BoundsGood (m : MetricsUnpacked) : Type 0 where
  pub ascent : pos 0 ≤ℤ m.ascent
  pub width : pos 0 ≤ℤ m.width
  pub least : pos 0 ≤ℤ height_of m
  pub most : height_of m ≤ℤ pos 32767

-- not 11, of a glyph under the bounds' ascent: "width, ascent and left bearing are at least 0, ascent + descent is 0 to 32,767, and
-- ascent is at most the maximum bounds' ascent"
pub record MetricsGood (m : MetricsUnpacked) (top : ℤ) : Type 0 where
  pub width : pos 0 ≤ℤ m.width
  pub ascent : pos 0 ≤ℤ m.ascent
  pub left : pos 0 ≤ℤ m.left
  pub least : pos 0 ≤ℤ height_of m
  pub most : height_of m ≤ℤ pos 32767
  pub below : m.ascent ≤ℤ top

-- a property's strings end: its name, and its value where the flag is not 0
pub record PropertyGood (s : List ℕ) (p : PropertiesData) (i : ℕ) : Type 0 where
  pub name : EndsIn s p.strings p.size (u32_at p.big s (p.records + 9 * i))
  pub value : (byte_at s (p.records + 9 * i + 4) ≡ 0 → ⊥) → EndsIn s p.strings p.size (u32_at p.big s (p.records + 9 * i + 5))

-- so do those of every property below this number
abbrev pub PropertiesGood : List ℕ → PropertiesData → ℕ → Type 0
PropertiesGood s p end = (i : ℕ) → i < end → PropertyGood s p i

-- "the byte that really holds the column", of every column of every row of a glyph, lies in the bitmap data
abbrev pub RowsGood : List ℕ → Record → ℕ → Type 0
RowsGood s rec g =
    (r c : ℕ) → r < nat_abs (height_of (glyph_metrics s rec.metrics g)) → c < nat_abs (glyph_metrics s rec.metrics g).width
    → row_of s rec.bitmaps g (nat_abs (glyph_metrics s rec.metrics g).width) r + byte_of (order_of rec.bitmaps) c < rec.bitmaps.size

-- a glyph's name ends
abbrev pub NameEnds : List ℕ → GlyphNameData → ℕ → Type 0
NameEnds s n g = EndsIn s n.strings n.size (u32_at n.big s (n.offsets + 4 * g))

-- of a glyph: none of 10, 11, 12, 14 over all rows, 17, 18
pub record GlyphGood (s : List ℕ) (rec : Record) (g : ℕ) : Type 0 where
  pub measured : g < rec.metrics.count
  pub metrics : MetricsGood (glyph_metrics s rec.metrics g) (bounds_of rec).ascent
  pub pictured : g < rec.bitmaps.count
  pub rows : RowsGood s rec g
  pub counted : g < rec.names.count
  pub ends : NameEnds s rec.names g

-- every code below this number has such a glyph, or none
abbrev pub CodesGood : List ℕ → Record → ℕ → Type 0
CodesGood s rec end = (code g : ℕ) → code < end → HasGlyph s rec code g → GlyphGood s rec g

-- not 13: no "unit code 3", no "unit wider than the row pad"
pub record OrderGood (b : BitmapData) : Type 0 where
  pub unit : b.unit < 3
  pub pad : unit_bytes b.unit ≤ b.pad

-- a font that passes, and its record: "such bytes with the record that loading gave for them"
pub record Passes (s : List ℕ) (rec : Record) : Type 0 where
  pub loads : loaded s ≡ Loaded.Font rec
  pub formats : FormatsAgree s
  pub order : OrderGood rec.bitmaps
  pub bounds : BoundsGood (bounds_of rec)
  pub properties : PropertiesGood s rec.props rec.props.count
  pub codes : CodesGood s rec 65536

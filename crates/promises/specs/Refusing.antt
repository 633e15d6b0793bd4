-- Why vetting refuses a font that loads, in plain logic. From document 01, "Vetting": "Otherwise the first failure and its place";
-- "in vetting, for a property the property's number, for a code the code [...] otherwise 0". From document 02: "vetting uses the strict" load,
-- which refuses 27, "placed like 6", by the entry's number.
use Rattle.std.specs.Prelude.{ℕ, ◌<◌, ◌≡◌, List, [], ◌∷◌, ◌⊎◌}
use Rattle.tables.specs.declared.Record.{Record}
use Rattle.load.specs.Formats.{FormatsAgree, FirstDiffers}
use Rattle.metrics.specs.Measure.{glyph_metrics}
use Rattle.place.specs.Bounds.{bounds_of}
use Rattle.promises.specs.Passing.{HasGlyph, OrderGood, BoundsGood, MetricsGood, PropertyGood, PropertiesGood, RowsGood, NameEnds, CodesGood}

-- a condition, and the number that refuses where it does not hold
pub record Condition : Type 1 where
  pub number : ℕ
  pub holds : Type 0

abbrev pub unless : ℕ → Type 0 → Condition
unless n P = record { number = n; holds = P }

-- n is the number of the first condition that does not hold
abbrev pub FirstOf : List Condition → ℕ → Type 0
FirstOf [] n = ⊥
FirstOf (c ∷ cs) n = ((c.holds → ⊥) × (n ≡ c.number)) ⊎ (c.holds × FirstOf cs n)

-- "10, 11, 12, 14 over all rows, 17, 18"
abbrev pub glyph_conditions : List ℕ → Record → ℕ → List Condition
glyph_conditions s rec g =
    unless 10 (g < rec.metrics.count)
    ∷ unless 11 (MetricsGood (glyph_metrics s rec.metrics g) (bounds_of rec).ascent)
    ∷ unless 12 (g < rec.bitmaps.count)
    ∷ unless 14 (RowsGood s rec g)
    ∷ unless 17 (g < rec.names.count)
    ∷ unless 18 (NameEnds s rec.names g)
    ∷ []

-- the first property that is not good: 18
pub record PropertyFails (s : List ℕ) (rec : Record) (n place : ℕ) : Type 0 where
  pub number : n ≡ 18
  pub counted : place < rec.props.count
  pub bad : PropertyGood s rec.props place → ⊥
  pub before : PropertiesGood s rec.props place

-- the first code whose glyph is not good, and the first condition of that glyph that does not hold
pub record CodeFails (s : List ℕ) (rec : Record) (n place : ℕ) : Type 0 where
  pub coded : place < 65536
  pub glyph : ℕ
  pub found : HasGlyph s rec place glyph
  pub in_order : FirstOf (glyph_conditions s rec glyph) n
  pub before : CodesGood s rec place

-- "in this order: no 13; the bounds hold (11); every property's strings end (18); then for each code"
abbrev pub RecordRefuses : List ℕ → Record → ℕ → ℕ → Type 0
RecordRefuses s rec n place =
    ((OrderGood rec.bitmaps → ⊥) × (n ≡ 13) × (place ≡ 0))
    ⊎ (OrderGood rec.bitmaps × (BoundsGood (bounds_of rec) → ⊥) × (n ≡ 11) × (place ≡ 0))
    ⊎ (OrderGood rec.bitmaps × BoundsGood (bounds_of rec) × PropertyFails s rec n place)
    ⊎ (OrderGood rec.bitmaps × BoundsGood (bounds_of rec) × PropertiesGood s rec.props rec.props.count × CodeFails s rec n place)

-- before all of these, the first entry whose format differs: 27
abbrev pub Refuses : List ℕ → Record → ℕ → ℕ → Type 0
Refuses s rec n place = ((n ≡ 27) × FirstDiffers s place) ⊎ (FormatsAgree s × RecordRefuses s rec n place)

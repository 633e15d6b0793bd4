-- Placing a character. From document 01: "Refusal 11 unless width, ascent and left bearing are at least 0, ascent + descent is 0 to
-- 32,767, and ascent is at most the maximum bounds' ascent"; "A glyph's bitmap is its character width wide and ascent + descent high;
-- `pad_top` is the bounds' ascent minus its own; `pad_left` is the left bearing."
use Rattle.std.specs.Prelude.{ℕ, Bool, cond, ◌&&◌, List, [], ◌∷◌, ◌++◌, ℤ, pos, nat_abs, ◌-ℤ◌}
use Rattle.std.specs.Int.Signed.{non_neg, le_z}
use Rattle.reads.specs.Said.{Said, refusal, says, refuses}
use Rattle.reads.specs.declared.GlyphIndex.{GlyphIndex}
use Rattle.tables.specs.Fits.{tested}
use Rattle.tables.specs.declared.EncodingData.{EncodingData}
use Rattle.tables.specs.declared.MetricsData.{MetricsData}
use Rattle.tables.specs.declared.MetricsUnpacked.{MetricsUnpacked}
use Rattle.tables.specs.declared.Record.{Record}
use Rattle.modes.specs.declared.Mode.{Mode}
use Rattle.lookup.specs.Served.{served, supplier_values}
use Rattle.lookup.specs.declared.Served.{Served}
use Rattle.lookup.specs.declared.Supplier.{Supplier}
use Rattle.metrics.specs.Measure.{metrics_of}
use Rattle.metrics.specs.declared.Measured.{Measured}
use Rattle.place.specs.Bounds.{height_of, in_range, bounds_of}
use Rattle.place.specs.declared.CharPrepared.{CharPrepared}
use Rattle.place.specs.declared.GlyphInfo.{GlyphInfo}
use Rattle.place.specs.declared.Prepared.{Prepared}

-- of a glyph's metrics, and the maximum bounds' ascent
unfoldable pub placeable : MetricsUnpacked → ℤ → Bool
placeable m top = non_neg m.width && non_neg m.ascent && non_neg m.left && in_range (height_of m) && le_z m.ascent top

-- the box of a glyph with such metrics
abbrev pub box_of : GlyphIndex → MetricsUnpacked → ℤ → GlyphInfo
box_of g m top = record {
  glyph = g;
  width = nat_abs m.width;
  height = nat_abs (height_of m);
  pad_top = nat_abs (top -ℤ m.ascent);
  pad_left = nat_abs m.left;
}

-- a glyph with these metrics placed: 11
abbrev pub boxed : GlyphIndex → MetricsUnpacked → ℤ → Prepared
boxed g m top = cond (placeable m top) (Prepared.Info (box_of g m top)) (Prepared.Refused (refusal 11 0))

abbrev pub with_metrics : Measured → (MetricsUnpacked → Prepared) → Prepared
with_metrics (Measured.Metrics m) rest = rest m
with_metrics (Measured.Refused r) rest = Prepared.Refused r

-- a glyph placed under the maximum bounds: 10, 11
unfoldable pub info_of : List ℕ → MetricsData → MetricsUnpacked → GlyphIndex → Prepared
info_of s metrics bounds g = with_metrics (metrics_of s metrics g.0) (λ m. boxed g m bounds.ascent)

-- "Placing [...] pass[es] the longer answer on": a placed glyph, and the code that supplied it
abbrev pub placed_by : Supplier → Prepared → CharPrepared
placed_by by (Prepared.Info i) = CharPrepared.Info i by
placed_by by (Prepared.Refused r) = CharPrepared.Refused r

abbrev pub with_glyph : Served → (GlyphIndex → Prepared) → CharPrepared
with_glyph (Served.Glyph g by) rest = placed_by by (rest g)
with_glyph (Served.Refused r) rest = CharPrepared.Refused r

-- a character placed: 9, 10, 11
unfoldable pub prepared : List ℕ → EncodingData → Mode → MetricsData → MetricsUnpacked → ℕ → CharPrepared
prepared s codes mode metrics bounds code = with_glyph (served s codes mode code) (λ g. info_of s metrics bounds g)

-- the same by a record's tables and bounds
abbrev pub info_in : List ℕ → Record → GlyphIndex → Prepared
info_in s rec g = info_of s rec.metrics (bounds_of rec) g

abbrev pub prepared_in : List ℕ → Record → Mode → ℕ → CharPrepared
prepared_in s rec mode code = prepared s rec.codes mode rec.metrics (bounds_of rec) code

-- `prep_char`: 6, 9, 10, 11
unfoldable pub prep_char : List ℕ → Record → Mode → ℕ → CharPrepared
prep_char s rec mode code = tested CharPrepared.Refused s rec (prepared_in s rec mode code)

-- the numbers of a glyph that cannot be placed
abbrev pub of_placing : List ℕ
of_placing = 10 ∷ 11 ∷ []

abbrev pub info_values : GlyphInfo → List ℤ
info_values i = pos i.glyph.0 ∷ pos i.width ∷ pos i.height ∷ pos i.pad_top ∷ pos i.pad_left ∷ []

abbrev pub said_prepared : Prepared → Said
said_prepared (Prepared.Info i) = says (info_values i)
said_prepared (Prepared.Refused r) = refuses r

abbrev pub said_char_prepared : CharPrepared → Said
said_char_prepared (CharPrepared.Info i by) = says (info_values i ++ supplier_values by)
said_char_prepared (CharPrepared.Refused r) = refuses r

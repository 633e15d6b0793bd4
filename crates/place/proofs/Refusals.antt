-- The numbers that placing is refused with: 9, 10, 11.
use Prim.Native.Nat.{ℕ}
use mathlib.Core.Path.{refl}
use mathlib.Core.List.{List, [], ◌∷◌}
use Rattle.reads.specs.Said.{NumberedBy}
use Rattle.reads.specs.declared.GlyphIndex.{GlyphIndex}
use Rattle.reads.proofs.Numbers.{has_values, has_number, whichever, wider, one_more}
use Rattle.tables.specs.declared.EncodingData.{EncodingData}
use Rattle.tables.specs.declared.MetricsData.{MetricsData}
use Rattle.tables.specs.declared.MetricsUnpacked.{MetricsUnpacked}
use Rattle.modes.specs.declared.Mode.{Mode}
use Rattle.lookup.specs.Served.{served, said_served}
use Rattle.lookup.specs.declared.Served.{Served}
use Rattle.lookup.specs.declared.Supplier.{Supplier}
use Rattle.lookup.proofs.Refusals.{serve_refusals}
use Rattle.metrics.specs.Measure.{metrics_of, said_measured}
use Rattle.metrics.specs.declared.Measured.{Measured}
use Rattle.metrics.proofs.Refusals.{metrics_of_refusals}
use Rattle.place.specs.Info.{placeable, boxed, with_metrics, info_of, placed_by, with_glyph, prepared, of_placing, said_prepared, said_char_prepared}
use Rattle.place.specs.declared.Prepared.{Prepared}

module _ (s : List ℕ) where
  pub info_of_refusals : (metrics : MetricsData) (bounds : MetricsUnpacked) (g : GlyphIndex) → NumberedBy of_placing (said_prepared (info_of s metrics bounds g))
  unfolding info_of
  info_of_refusals metrics bounds g = by (metrics_of s metrics g.0) (metrics_of_refusals s metrics g.0) where
    by : (x : Measured) → NumberedBy (10 ∷ []) (said_measured x) → NumberedBy of_placing (said_prepared (with_metrics x (λ m. boxed g m bounds.ascent)))
    by (Measured.Metrics m) h = whichever said_prepared (placeable m bounds.ascent) has_values (has_number refl)
    by (Measured.Refused r) h = wider refl h

  pub char_info_refusals : (codes : EncodingData) (mode : Mode) (metrics : MetricsData) (bounds : MetricsUnpacked) (code : ℕ)
      → NumberedBy (9 ∷ of_placing) (said_char_prepared (prepared s codes mode metrics bounds code))
  unfolding prepared
  char_info_refusals codes mode metrics bounds code = by (served s codes mode code) (serve_refusals s codes mode code) where
    of : (p : Supplier) (x : Prepared) → NumberedBy of_placing (said_prepared x) → NumberedBy (9 ∷ of_placing) (said_char_prepared (placed_by p x))
    of p (Prepared.Info i) h = has_values
    of p (Prepared.Refused r) h = one_more h

    by : (x : Served) → NumberedBy (9 ∷ []) (said_served x) → NumberedBy (9 ∷ of_placing) (said_char_prepared (with_glyph x (λ g. info_of s metrics bounds g)))
    by (Served.Glyph g p) h = of p (info_of s metrics bounds g) (info_of_refusals metrics bounds g)
    by (Served.Refused r) h = wider refl h

-- In a font of bytes no glyph is wider than 16 bits hold: a compressed metric is as large as its byte, the other form as its two.
use Prim.Native.Nat.{ℕ, ◌+◌, ◌*◌, ◌<◌}
use mathlib.Core.Bool.{Bool, true, false}
use mathlib.Core.List.{List}
use lib.IntN.{nat_abs}
use Rattle.reads.specs.Num.{byte_at, u16_at, Octets}
use Rattle.reads.proofs.Signed.{metric_small, signed_small}
use Rattle.tables.specs.Metrics.{wide_at, narrow_at, metric_bytes}
use Rattle.tables.specs.declared.MetricsData.{MetricsData}
use Rattle.metrics.specs.Measure.{measured_at, glyph_metrics}

pub width_small : (s : List ℕ) → Octets s → (m : MetricsData) (g : ℕ) → nat_abs (glyph_metrics s m g).width < 65536
unfolding wide_at narrow_at
width_small s octets m g = by m.compressed where
  by : (narrow : Bool) → nat_abs (measured_at narrow m.big s (m.records + metric_bytes narrow * g)).width < 65536
  by true = metric_small (byte_at s (m.records + 5 * g + 2)) (octets.below (m.records + 5 * g + 2))
  by false = signed_small (u16_at m.big s (m.records + 12 * g + 4))

-- Past the record's test a glyph's metrics are read from inside the bytes.
use mathlib.Core.Path.{◌≡◌}
use mathlib.Core.Bool.{true}
use Prim.Native.Nat.{ℕ, ◌+◌, ◌*◌, ◌≤◌, ◌<◌}
use Rattle.tables.specs.Metrics.{metric_bytes}
use Rattle.tables.specs.Fits.{metrics_fit}
use Rattle.tables.specs.declared.MetricsData.{MetricsData}
use Rattle.tables.proofs.Items.{item_inside}

pub record_inside :
    (len : ℕ) (m : MetricsData) (g : ℕ) → metrics_fit len m ≡ true → g < m.count
    → m.records + metric_bytes m.compressed * g + metric_bytes m.compressed ≤ len
unfolding metrics_fit
record_inside len m g e h = item_inside len m.records (metric_bytes m.compressed) m.count g e h

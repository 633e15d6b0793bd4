-- A glyph's metrics and the accelerators. From document 01, "Reading the tables", metrics and accelerators; refusal 10 "glyph at or
-- above the metrics count".
use Rattle.std.specs.Prelude.{ℕ, ◌+◌, ◌*◌, Bool, true, false, cond, List, leb}
use Rattle.reads.specs.Said.{Said, refusal, says, refuses}
use Rattle.tables.specs.Metrics.{wide_at, narrow_at, metric_bytes}
use Rattle.tables.specs.Fits.{tested}
use Rattle.tables.specs.Values.{metrics_values, accelerator_values}
use Rattle.tables.specs.declared.MetricsData.{MetricsData}
use Rattle.tables.specs.declared.MetricsUnpacked.{MetricsUnpacked}
use Rattle.tables.specs.declared.Record.{Record}
use Rattle.metrics.specs.declared.Measured.{Measured}
use Rattle.metrics.specs.declared.Accelerated.{Accelerated}

-- a record of either form
abbrev pub measured_at : Bool → Bool → List ℕ → ℕ → MetricsUnpacked
measured_at true big s at = narrow_at s at
measured_at false big s at = wide_at big s at

-- glyph g's record
abbrev pub glyph_metrics : List ℕ → MetricsData → ℕ → MetricsUnpacked
glyph_metrics s m g = measured_at m.compressed m.big s (m.records + metric_bytes m.compressed * g)

-- glyph g's metrics, or 10
unfoldable pub metrics_of : List ℕ → MetricsData → ℕ → Measured
metrics_of s m g = cond (leb m.count g) (Measured.Refused (refusal 10 0)) (Measured.Metrics (glyph_metrics s m g))

-- `get_metrics`: 6, 10
unfoldable pub get_metrics : List ℕ → Record → ℕ → Measured
get_metrics s rec g = tested Measured.Refused s rec (metrics_of s rec.metrics g)

-- `get_accelerators`: 6
unfoldable pub get_accelerators : List ℕ → Record → Accelerated
get_accelerators s rec = tested Accelerated.Refused s rec (Accelerated.Accelerators rec.accel)

abbrev pub said_measured : Measured → Said
said_measured (Measured.Metrics m) = says (metrics_values m)
said_measured (Measured.Refused r) = refuses r

abbrev pub said_accelerated : Accelerated → Said
said_accelerated (Accelerated.Accelerators a) = says (accelerator_values a)
said_accelerated (Accelerated.Refused r) = refuses r

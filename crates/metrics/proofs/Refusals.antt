-- The number that a glyph without metrics is refused with: 10.
use Prim.Native.Nat.{ℕ}
use mathlib.Core.Path.{refl}
use mathlib.Core.List.{List, [], ◌∷◌}
use lib.Dec.{leb}
use Rattle.reads.specs.Said.{NumberedBy}
use Rattle.reads.proofs.Numbers.{has_values, has_number, whichever}
use Rattle.tables.specs.declared.MetricsData.{MetricsData}
use Rattle.metrics.specs.Measure.{metrics_of, said_measured}

pub metrics_of_refusals : (s : List ℕ) (m : MetricsData) (g : ℕ) → NumberedBy (10 ∷ []) (said_measured (metrics_of s m g))
unfolding metrics_of
metrics_of_refusals s m g = whichever said_measured (leb m.count g) (has_number refl) has_values

-- The numbers that a table is refused with: 6, of a code table also 7.
use Prim.Native.Nat.{ℕ}
use mathlib.Core.Path.{refl}
use mathlib.Core.Bool.{◌||◌}
use mathlib.Core.List.{List, [], ◌∷◌}
use lib.Dec.{ltb}
use Rattle.reads.specs.Said.{NumberedBy}
use Rattle.reads.proofs.Numbers.{has_values, has_number, whichever}
use Rattle.tables.specs.Properties.{properties_table, properties_end, properties_at}
use Rattle.tables.specs.Accelerators.{accelerators_end, accelerators_at}
use Rattle.tables.specs.Metrics.{metrics_table, metrics_end, metrics_at}
use Rattle.tables.specs.Bitmaps.{bitmaps_table, bitmaps_end, bitmaps_at}
use Rattle.tables.specs.Codes.{codes_table, codes_end, codes_at}
use Rattle.tables.specs.Names.{names_table, names_end, names_at}
use Rattle.tables.specs.Values.{said_table}

module _ (s : List ℕ) (at end : ℕ) where
  pub properties_at_refusals : NumberedBy (6 ∷ []) (said_table (properties_at s at end))
  unfolding properties_at
  properties_at_refusals = whichever said_table (ltb end (properties_end (properties_table s at))) (has_number refl) has_values

  pub accelerators_at_refusals : NumberedBy (6 ∷ []) (said_table (accelerators_at s at end))
  unfolding accelerators_at
  accelerators_at_refusals = whichever said_table (ltb end (accelerators_end at)) (has_number refl) has_values

  pub metrics_at_refusals : (format : ℕ) → NumberedBy (6 ∷ []) (said_table (metrics_at s format at end))
  unfolding metrics_at
  metrics_at_refusals format = whichever said_table (ltb end (metrics_end (metrics_table s format at))) (has_number refl) has_values

  pub bitmaps_at_refusals : NumberedBy (6 ∷ []) (said_table (bitmaps_at s at end))
  unfolding bitmaps_at
  bitmaps_at_refusals = whichever said_table (ltb end (bitmaps_end (bitmaps_table s at))) (has_number refl) has_values

  pub codes_at_refusals : NumberedBy (6 ∷ 7 ∷ []) (said_table (codes_at s at end))
  unfolding codes_at
  codes_at_refusals =
      let c = codes_table s at in
      whichever said_table (ltb end c.entries) (has_number refl)
      (whichever said_table (ltb c.high2 c.low2 || ltb c.high1 c.low1) (has_number refl)
      (whichever said_table (ltb end (codes_end c)) (has_number refl) has_values))

  pub names_at_refusals : NumberedBy (6 ∷ []) (said_table (names_at s at end))
  unfolding names_at
  names_at_refusals = whichever said_table (ltb end (names_end (names_table s at))) (has_number refl) has_values

-- A table that was read from its bytes fits a record's test, with any file that holds those bytes.
use mathlib.Core.Path.{◌≡◌, refl}
use mathlib.Core.Bool.{true, ◌||◌}
use mathlib.Core.List.{List}
use Prim.Native.Nat.{ℕ, zero, suc, ◌+◌, ◌*◌, ◌^◌, ◌≤◌, ◌<◌}
use native.Mathlib.Omega.{arith}
use lib.ListN.{length}
use lib.Dec.{ltb, eqb}
use borrow.Author.Tests.{le-leb, ltb-false}
use Rattle.reads.proofs.Tests.{split, either, unless}
use Rattle.tables.specs.Format.{format_at, pad_code}
use Rattle.tables.specs.Properties.{properties_table, properties_end, properties_at}
use Rattle.tables.specs.Accelerators.{accelerators_end, accelerators_at}
use Rattle.tables.specs.Metrics.{metrics_table, metrics_end, metrics_at}
use Rattle.tables.specs.Bitmaps.{bitmaps_table, bitmaps_end, bitmaps_at}
use Rattle.tables.specs.Codes.{codes_table, codes_end, codes_at}
use Rattle.tables.specs.Names.{names_table, names_end, names_at}
use Rattle.tables.specs.Fits.{pad_fits, props_fit, metrics_fit, bitmaps_fit, codes_fit, names_fit}
use Rattle.tables.specs.declared.TableRead.{TableRead}
use Rattle.load.specs.Load.{table_at}

-- a row pad is 2 to a power below 4
pads : (code : ℕ) → code < 4 → pad_fits (2 ^ code) ≡ true
pads zero h = refl
pads (suc zero) h = refl
pads (suc (suc zero)) h = refl
pads (suc (suc (suc zero))) h = refl
pads (suc (suc (suc (suc k)))) h = absurd (omega arith)

-- a table whose contents end inside the file fits
module _ (s : List ℕ) (at end : ℕ) (in_file : end ≤ length s) where
  props_fit_lem : properties_end (properties_table s at) ≤ end → props_fit (length s) (properties_table s at) ≡ true
  unfolding props_fit properties_table
  props_fit_lem h =
      let p = properties_table s at in
      rw (le-leb (p.records + 9 * p.count) (length s) (omega arith), le-leb (p.strings + p.size) (length s) (omega arith)) refl

  metrics_fit_lem : (format : ℕ) → metrics_end (metrics_table s format at) ≤ end → metrics_fit (length s) (metrics_table s format at) ≡ true
  unfolding metrics_fit
  metrics_fit_lem format h = le-leb (metrics_end (metrics_table s format at)) (length s) (omega arith)

  bitmaps_fit_lem : bitmaps_end (bitmaps_table s at) ≤ end → bitmaps_fit (length s) (bitmaps_table s at) ≡ true
  unfolding bitmaps_fit bitmaps_table
  bitmaps_fit_lem h =
      let b = bitmaps_table s at in
      rw (le-leb (b.offsets + 4 * b.count) (length s) (omega arith), le-leb (b.bits + b.size) (length s) (omega arith))
      (pads (pad_code (format_at s at)) (omega arith))

  names_fit_lem : names_end (names_table s at) ≤ end → names_fit (length s) (names_table s at) ≡ true
  unfolding names_fit names_table
  names_fit_lem h =
      let n = names_table s at in
      rw (le-leb (n.offsets + 4 * n.count) (length s) (omega arith), le-leb (n.strings + n.size) (length s) (omega arith)) refl

  codes_fit_lem :
      (codes_table s at).low2 ≤ (codes_table s at).high2 → (codes_table s at).low1 ≤ (codes_table s at).high1 → codes_end (codes_table s at) ≤ end
      → codes_fit (length s) (codes_table s at) ≡ true
  unfolding codes_fit codes_table
  codes_fit_lem l2 l1 h =
      let c = codes_table s at in
      rw (le-leb (c.entries + c.size) (length s) (omega arith), le-leb c.low2 c.high2 l2, le-leb c.low1 c.high1 l1)
      (le-leb c.size c.size (omega arith))

-- what reading a table gives fits, where it is a table; the accelerators have no region
abbrev pub ReadFits : ℕ → TableRead → Type 0
ReadFits len (TableRead.Properties t) = props_fit len t ≡ true
ReadFits len (TableRead.Accelerators t) = Unit {0}
ReadFits len (TableRead.Metrics t) = metrics_fit len t ≡ true
ReadFits len (TableRead.Bitmaps t) = bitmaps_fit len t ≡ true
ReadFits len (TableRead.Codes t) = codes_fit len t ≡ true
ReadFits len (TableRead.Names t) = names_fit len t ≡ true
ReadFits len TableRead.Other = Unit {0}
ReadFits len (TableRead.Refused n) = Unit {0}

module _ (s : List ℕ) (at end : ℕ) (in_file : end ≤ length s) where
  abbrev Fits : TableRead → Type 0
  Fits = ReadFits (length s)

  props_read : Fits (properties_at s at end)
  unfolding properties_at
  props_read = unless Fits end (properties_end (properties_table s at)) (λ l. tt) (props_fit_lem s at end in_file)

  accelerators_read : Fits (accelerators_at s at end)
  unfolding accelerators_at
  accelerators_read = unless Fits end (accelerators_end at) (λ l. tt) (λ l. tt)

  metrics_read : (format : ℕ) → Fits (metrics_at s format at end)
  unfolding metrics_at
  metrics_read format = unless Fits end (metrics_end (metrics_table s format at)) (λ l. tt) (metrics_fit_lem s at end in_file format)

  bitmaps_read : Fits (bitmaps_at s at end)
  unfolding bitmaps_at
  bitmaps_read = unless Fits end (bitmaps_end (bitmaps_table s at)) (λ l. tt) (bitmaps_fit_lem s at end in_file)

  names_read : Fits (names_at s at end)
  unfolding names_at
  names_read = unless Fits end (names_end (names_table s at)) (λ l. tt) (names_fit_lem s at end in_file)

  codes_read : Fits (codes_at s at end)
  unfolding codes_at
  codes_read =
      let c = codes_table s at in
      unless Fits end c.entries (λ l. tt)
      (λ l. split (ltb c.high2 c.low2) (λ u. rw u tt)
      (λ u. split (ltb c.high1 c.low1) (λ v. rw (u, v) tt)
      (λ v. rw (u, v)
      (unless Fits end (codes_end c) (λ m. tt)
      (codes_fit_lem s at end in_file (ltb-false c.high2 c.low2 u) (ltb-false c.high1 c.low1 v))))))

  pub table_read : (kind format : ℕ) → Fits (table_at s kind format at end)
  unfolding table_at
  table_read kind format =
      either Fits (eqb kind 1) props_read
      (either Fits (eqb kind 2 || eqb kind 256) accelerators_read
      (either Fits (eqb kind 4) (metrics_read format)
      (either Fits (eqb kind 8) bitmaps_read
      (either Fits (eqb kind 32) codes_read
      (either Fits (eqb kind 128) names_read tt)))))

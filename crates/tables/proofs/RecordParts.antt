-- What the record's test says of each part, and of the regions that strings and bitmap data stand in.
use mathlib.Core.Path.{◌≡◌}
use mathlib.Core.Bool.{true, ◌&&◌}
use Prim.Native.Nat.{ℕ, zero, suc, ◌*◌, ◌<◌}
use native.Mathlib.Omega.{arith}
use Rattle.reads.proofs.Tests.{never, both}
use Rattle.tables.specs.Fits.{inside, pad_fits, props_fit, metrics_fit, bitmaps_fit, codes_fit, names_fit, record_fits}
use Rattle.tables.specs.declared.Record.{Record}

pub record PartsFit (len : ℕ) (rec : Record) : Type 0 where
  pub props : props_fit len rec.props ≡ true
  pub metrics : metrics_fit len rec.metrics ≡ true
  pub bitmaps : bitmaps_fit len rec.bitmaps ≡ true
  pub codes : codes_fit len rec.codes ≡ true
  pub names : names_fit len rec.names ≡ true

some_pad : (pad : ℕ) → pad_fits pad ≡ true → 0 < pad
some_pad zero e = never e
some_pad (suc n) e = omega arith

module _ (len : ℕ) (rec : Record) (e : record_fits len rec ≡ true) where
  pub parts_fit : PartsFit len rec
  unfolding record_fits
  parts_fit =
      let p = props_fit len rec.props in
      let m = metrics_fit len rec.metrics in
      let b = bitmaps_fit len rec.bitmaps in
      let c = codes_fit len rec.codes in
      let (up-to-codes, names) = both (p && m && b && c) (names_fit len rec.names) e in
      let (up-to-bitmaps, codes) = both (p && m && b) c up-to-codes in
      let (up-to-metrics, bitmaps) = both (p && m) b up-to-bitmaps in
      let (props, metrics) = both p m up-to-metrics in
      record { props = props; metrics = metrics; bitmaps = bitmaps; codes = codes; names = names }

  pub prop_strings : inside len rec.props.strings rec.props.size ≡ true
  unfolding props_fit
  prop_strings =
      let p = rec.props in
      (both (inside len p.records (9 * p.count)) (inside len p.strings p.size) parts_fit.props).1

  pub name_strings : inside len rec.names.strings rec.names.size ≡ true
  unfolding names_fit
  name_strings =
      let n = rec.names in
      (both (inside len n.offsets (4 * n.count)) (inside len n.strings n.size) parts_fit.names).1

  -- the bitmaps' two regions, and then the row pad
  bitmap_parts : (inside len rec.bitmaps.offsets (4 * rec.bitmaps.count) && inside len rec.bitmaps.bits rec.bitmaps.size ≡ true)
      × (pad_fits rec.bitmaps.pad ≡ true)
  unfolding bitmaps_fit
  bitmap_parts =
      let b = rec.bitmaps in
      both (inside len b.offsets (4 * b.count) && inside len b.bits b.size) (pad_fits b.pad) parts_fit.bitmaps

  pub bitmap_bytes : inside len rec.bitmaps.bits rec.bitmaps.size ≡ true
  bitmap_bytes =
      let b = rec.bitmaps in
      (both (inside len b.offsets (4 * b.count)) (inside len b.bits b.size) bitmap_parts.0).1

  pub pad_above_0 : 0 < rec.bitmaps.pad
  pad_above_0 = some_pad rec.bitmaps.pad bitmap_parts.1

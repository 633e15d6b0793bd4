-- What `text_shown` is given can be had: F passes vetting, and "01" on a panel of 6 pixels width is such a text.
use Prim.Native.Nat.{ℕ}
use mathlib.Core.Path.{◌≡◌, refl, subst, sym}
use mathlib.Core.List.{List, [], ◌∷◌}
use mathlib.Core.Logic.{inl}
use native.Mathlib.Omega.{arith}
use Rattle.reads.specs.Num.{digits, num_at, signed, less128}
use Rattle.tables.specs.declared.Record.{Record}
use Rattle.tables.specs.Properties.{properties_table, properties_at}
use Rattle.tables.specs.Accelerators.{accelerators_table, accelerators_at}
use Rattle.tables.specs.Metrics.{wide_at, narrow_at, metrics_table, metrics_at}
use Rattle.tables.specs.Bitmaps.{bitmaps_table, bitmaps_at}
use Rattle.tables.specs.Codes.{codes_table, codes_at}
use Rattle.tables.specs.Names.{names_table, names_at}
use Rattle.load.specs.Gather.{finished}
use Rattle.load.specs.Load.{table_at, format_differs, table_in, entry_of, entry_at, entries_from, loaded_in, loaded_strictly}
use Rattle.load.specs.declared.Loaded.{Loaded}
use Rattle.lookup.specs.Lookup.{slot_of, glyph_of}
use Rattle.lookup.specs.CodeRange.{code_range}
use Rattle.metrics.specs.Measure.{metrics_of}
use Rattle.names.specs.Strings.{zero_from, string_at}
use Rattle.names.specs.Names.{name_of}
use Rattle.props.specs.Props.{prop_of}
use Rattle.bitmaps.specs.Paint.{some}
use Rattle.bitmaps.specs.Units.{byte_of}
use Rattle.bitmaps.specs.Rows.{bytes_past}
use Rattle.bitmaps.specs.Picture.{offset_of, rows_short}
use Rattle.place.specs.Bounds.{bounds_hold}
use Rattle.place.specs.Info.{placeable, info_of}
use Rattle.vet.specs.First.{first_fault}
use Rattle.vet.specs.Vet.{prop_fault, box_fault, code_fault, vet_loaded, vetted}
use Rattle.vet.specs.declared.Vetted.{Vetted}
use Rattle.hexline.specs.Lines.{lines_of, digit_of, pairs, all_pairs, hex_bytes}
use Rattle.frames.proofs.DumpRange.{vet_in_range, vets}
use Rattle.utf8.specs.WellFormed.{lines, WellFormed}
use Rattle.text.specs.declared.Wrap.{Wrap}
use Rattle.promises.specs.Typed.{typed, typed_lines}
use Rattle.promises.specs.FontF.{lines_f, font_f}
use Rattle.promises.specs.Seen.{layout}
use Rattle.promises.specs.Texts.{Given}

abbrev IsPassed : Vetted → Type 0
IsPassed (Vetted.Passed rec) = Unit {0}
IsPassed (Vetted.Refused r) = ⊥

abbrev loaded_in_range : List ℕ → Loaded → Vetted
loaded_in_range s (Loaded.Font rec) = vet_in_range s rec
loaded_in_range s (Loaded.Refused r) = Vetted.Refused r

by_range : (s : List ℕ) (x : Loaded) → vet_loaded s x ≡ loaded_in_range s x
by_range s (Loaded.Font rec) = vets s rec
by_range s (Loaded.Refused r) = refl

-- by the two codes in the table's range
f_passes : IsPassed (loaded_in_range font_f (loaded_strictly font_f))
unfolding font_f lines_f typed typed_lines hex_bytes lines_of digit_of digits num_at signed less128 properties_table properties_at
    accelerators_table accelerators_at wide_at narrow_at metrics_table metrics_at bitmaps_table bitmaps_at codes_table codes_at
    names_table names_at finished table_at format_differs table_in entry_of entry_at entries_from loaded_in slot_of glyph_of metrics_of zero_from string_at
    name_of prop_of some byte_of bytes_past rows_short bounds_hold placeable info_of first_fault code_fault offset_of prop_fault box_fault
    pairs all_pairs code_range
f_passes = tt

record_of_passed : (v : Vetted) → IsPassed v → (rec : Record) × (v ≡ Vetted.Passed rec)
record_of_passed (Vetted.Passed rec) p = (rec, refl)
record_of_passed (Vetted.Refused r) p = absurd p

pub passed_f : (rec : Record) × (vetted font_f ≡ Vetted.Passed rec)
unfolding vetted
passed_f = record_of_passed (vetted font_f) (subst IsPassed (sym (by_range font_f (loaded_strictly font_f))) f_passes)

zero_one : WellFormed (typed "01")
unfolding typed lines
zero_one = record {
  parts = (0x30 ∷ []) ∷ (0x31 ∷ []) ∷ [];
  each = (inl (omega arith, omega arith, tt), (inl (omega arith, omega arith, tt), tt));
  is = refl;
}

pub given_f : (rec : Record) × Given font_f rec (typed "01") (layout 6 Wrap.Never)
unfolding typed
given_f = (
  passed_f.0,
  record {
    passed = passed_f.1;
    well_formed = zero_one;
    short = omega arith;
    start_high = omega arith;
    stride_low = omega arith;
    stride_high = omega arith;
    scale_low = omega arith;
    scale_high = omega arith;
  },
)

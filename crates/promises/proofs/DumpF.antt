-- F's dump, computed from the definitions, is what document 01 prints.
use mathlib.Core.Path.{◌≡◌, refl, ◌∙◌}
use Rattle.reads.specs.Num.{digits, num_at, signed, less128}
use Rattle.tables.specs.Properties.{properties_table, properties_at}
use Rattle.tables.specs.Accelerators.{accelerators_table, accelerators_at}
use Rattle.tables.specs.Metrics.{wide_at, narrow_at, metrics_table, metrics_at}
use Rattle.tables.specs.Bitmaps.{bitmaps_table, bitmaps_at}
use Rattle.tables.specs.Codes.{codes_table, codes_at}
use Rattle.tables.specs.Names.{names_table, names_at}
use Rattle.load.specs.Gather.{finished}
use Rattle.load.specs.Load.{table_at, format_differs, table_in, entry_of, entry_at, entries_from, loaded_in}
use Rattle.lookup.specs.Lookup.{slot_of, glyph_of}
use Rattle.lookup.specs.CodeRange.{code_range}
use Rattle.metrics.specs.Measure.{metrics_of}
use Rattle.names.specs.Strings.{zero_from, string_at}
use Rattle.names.specs.Names.{name_of}
use Rattle.props.specs.Props.{prop_of}
use Rattle.bitmaps.specs.Paint.{some}
use Rattle.bitmaps.specs.Units.{bit_at, byte_of, packed, row_byte}
use Rattle.bitmaps.specs.Rows.{bytes_past}
use Rattle.bitmaps.specs.Picture.{offset_of, rows_short}
use Rattle.place.specs.Bounds.{bounds_hold}
use Rattle.place.specs.Info.{placeable, info_of, prepared}
use Rattle.vet.specs.First.{first_fault}
use Rattle.vet.specs.Vet.{prop_fault, box_fault, code_fault}
use Rattle.hexline.specs.Lines.{lines_of, digit_of, all_digits, good_line, bytes_from, hex_read, pairs, all_pairs, hex_bytes}
use Rattle.frames.specs.Hex.{hex_digit, hex_all, field}
use Rattle.frames.specs.Whole.{whole_box, whole_glyph}
use Rattle.frames.specs.Frames.{row_from, rows_from, frame, frame_of, frames_from}
use Rattle.frames.specs.Dump.{dumped}
use Rattle.frames.proofs.DumpRange.{read_in_range, dump_in_range}
use Rattle.promises.specs.Typed.{typed, typed_lines}
use Rattle.promises.specs.FontF.{lines_f, frames_f}

-- of the two codes in the table's range
in_range_lem : read_in_range (hex_bytes (typed_lines lines_f)) (hex_read (typed_lines lines_f)) ≡ typed_lines frames_f
unfolding lines_f frames_f typed typed_lines hex_bytes lines_of digit_of good_line bytes_from hex_read digits num_at signed
    less128 properties_table properties_at accelerators_table accelerators_at wide_at narrow_at metrics_table metrics_at
    bitmaps_table bitmaps_at codes_table codes_at names_table names_at finished table_at format_differs table_in entry_of entry_at entries_from loaded_in
    slot_of glyph_of metrics_of zero_from string_at name_of prop_of some byte_of bytes_past rows_short bounds_hold placeable info_of prepared whole_box whole_glyph
    first_fault code_fault hex_digit field frame frame_of frames_from offset_of prop_fault box_fault
    all_digits pairs all_pairs hex_all bit_at packed row_byte row_from rows_from code_range
in_range_lem = refl

pub dump_f : dumped (typed_lines lines_f) ≡ typed_lines frames_f
dump_f = dump_in_range (typed_lines lines_f) ∙ in_range_lem

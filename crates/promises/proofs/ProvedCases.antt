-- P1 to P10 hold of the definitions: what is seen of font F, loaded from its bytes, is what document 01 says.
use mathlib.Core.Path.{refl}
use Rattle.reads.specs.Num.{digits, num_at, signed, less128}
use Rattle.tables.specs.Properties.{properties_table, properties_at}
use Rattle.tables.specs.Accelerators.{accelerators_table, accelerators_at}
use Rattle.tables.specs.Metrics.{wide_at, narrow_at, metrics_table, metrics_at}
use Rattle.tables.specs.Bitmaps.{bitmaps_table, bitmaps_at}
use Rattle.tables.specs.Codes.{codes_table, codes_at}
use Rattle.tables.specs.Names.{names_table, names_at}
use Rattle.tables.specs.Fits.{props_fit, metrics_fit, bitmaps_fit, codes_fit, names_fit, record_fits}
use Rattle.load.specs.Gather.{finished}
use Rattle.load.specs.Load.{table_at, table_in, entry_of, entry_at, entries_from, loaded_in}
use Rattle.lookup.specs.Lookup.{slot_of, glyph_of}
use Rattle.lookup.specs.Served.{stand_in, served, get_glyph}
use Rattle.metrics.specs.Measure.{metrics_of, get_metrics}
use Rattle.bitmaps.specs.Paint.{some, painted}
use Rattle.bitmaps.specs.Units.{bit_at, byte_of}
use Rattle.bitmaps.specs.Rows.{bytes_past}
use Rattle.bitmaps.specs.Dots.{block_dot, row_dot, some_dot}
use Rattle.bitmaps.specs.Picture.{offset_of, rows_short, glyph_bit}
use Rattle.bitmaps.specs.Draw.{shown_at}
use Rattle.place.specs.Bounds.{bounds_hold}
use Rattle.place.specs.Info.{placeable, info_of, prepared}
use Rattle.glyphs.specs.Glyph.{glyph_drawn}
use Rattle.glyphs.specs.Char.{char_ready, draw_char}
use Rattle.utf8.specs.Table.{find, lead_of, table as leads}
use Rattle.utf8.specs.Step.{longer, step_at}
use Rattle.utf8.specs.Decode.{decode_from, decoded, checked_text}
use Rattle.text.specs.Walk.{wrapped, placed, placed_drawn}
use Rattle.text.specs.Text.{text_from, in_text, ready, draw_string}
use Rattle.hexline.specs.Lines.{lines_of, digit_of, pairs, all_pairs, hex_bytes}
use Rattle.promises.specs.Typed.{typed, typed_lines}
use Rattle.promises.specs.FontF.{lines_f, font_f}
use Rattle.promises.specs.Seen.{asked, seen}
use Rattle.promises.specs.Cases.{table, Holds}

pub proved_cases : Holds table
unfolding table seen asked font_f lines_f typed typed_lines hex_bytes lines_of digit_of digits num_at signed less128
    properties_table properties_at accelerators_table accelerators_at wide_at narrow_at metrics_table metrics_at bitmaps_table
    bitmaps_at codes_table codes_at names_table names_at props_fit metrics_fit bitmaps_fit codes_fit names_fit record_fits finished
    table_at table_in entry_of entry_at entries_from loaded_in slot_of glyph_of stand_in served get_glyph metrics_of get_metrics some painted bit_at byte_of bytes_past block_dot row_dot
    some_dot rows_short glyph_bit shown_at bounds_hold placeable info_of prepared glyph_drawn char_ready draw_char find lead_of leads longer
    step_at decode_from decoded checked_text placed text_from in_text ready draw_string offset_of wrapped placed_drawn pairs all_pairs
proved_cases = (refl, (refl, (refl, (refl, (refl, (refl, (refl, (refl, (refl, (refl, tt))))))))))

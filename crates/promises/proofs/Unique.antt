-- Each public function's contract, as it stands in the source, determines its answer: any two results that satisfy it for the same
-- arguments are equal.
use mathlib.Core.Path.{refl, sym, ◌∙◌}
use Rattle.promises.specs.Unique.{Fixes, FixesPart, FixesLent}
use Rattle.reads.proofs.byte_at.Kinds as byte-at-kinds
use Rattle.reads.proofs.byte_at.Reads as byte-at-reads
use Rattle.reads.proofs.u16_at.Kinds as u16-at-kinds
use Rattle.reads.proofs.u16_at.Reads as u16-at-reads
use Rattle.reads.proofs.u32_at.Kinds as u32-at-kinds
use Rattle.reads.proofs.u32_at.Reads as u32-at-reads
use Rattle.reads.proofs.i16_at.Kinds as i16-at-kinds
use Rattle.reads.proofs.i16_at.Reads as i16-at-reads
use Rattle.reads.proofs.i32_at.Kinds as i32-at-kinds
use Rattle.reads.proofs.i32_at.Reads as i32-at-reads
use Rattle.reads.proofs.metric_of.Kinds as metric-of-kinds
use Rattle.reads.proofs.metric_of.Reads as metric-of-reads
use Rattle.reads.proofs.reach.Kinds as reach-kinds
use Rattle.reads.proofs.reach.Reads as reach-reads
use Rattle.reads.proofs.lies_in.Kinds as lies-in-kinds
use Rattle.reads.proofs.lies_in.Reads as lies-in-reads
use Rattle.tables.proofs.properties_at.Kinds as properties-at-kinds
use Rattle.tables.proofs.properties_at.Reads as properties-at-reads
use Rattle.tables.proofs.accelerators_at.Kinds as accelerators-at-kinds
use Rattle.tables.proofs.accelerators_at.Reads as accelerators-at-reads
use Rattle.tables.proofs.metrics_at.Kinds as metrics-at-kinds
use Rattle.tables.proofs.metrics_at.Reads as metrics-at-reads
use Rattle.tables.proofs.metric_bytes.Kinds as metric-bytes-kinds
use Rattle.tables.proofs.metric_bytes.Reads as metric-bytes-reads
use Rattle.tables.proofs.bitmaps_at.Kinds as bitmaps-at-kinds
use Rattle.tables.proofs.bitmaps_at.Reads as bitmaps-at-reads
use Rattle.tables.proofs.codes_at.Kinds as codes-at-kinds
use Rattle.tables.proofs.codes_at.Reads as codes-at-reads
use Rattle.tables.proofs.names_at.Kinds as names-at-kinds
use Rattle.tables.proofs.names_at.Reads as names-at-reads
use Rattle.tables.proofs.wide_at.Kinds as wide-at-kinds
use Rattle.tables.proofs.wide_at.Reads as wide-at-reads
use Rattle.tables.proofs.narrow_at.Kinds as narrow-at-kinds
use Rattle.tables.proofs.narrow_at.Reads as narrow-at-reads
use Rattle.tables.proofs.is_inside.Kinds as is-inside-kinds
use Rattle.tables.proofs.is_inside.Reads as is-inside-reads
use Rattle.tables.proofs.record_fits.Kinds as record-fits-kinds
use Rattle.tables.proofs.record_fits.Reads as record-fits-reads
use Rattle.tables.proofs.guard.Kinds as guard-kinds
use Rattle.tables.proofs.guard.Reads as guard-reads
use Rattle.load.proofs.load_in.Kinds as load-in-kinds
use Rattle.load.proofs.load_in.Reads as load-in-reads
use Rattle.load.proofs.load_pcf.Kinds as load-pcf-kinds
use Rattle.load.proofs.load_pcf.Reads as load-pcf-reads
use Rattle.load.proofs.load_strict.Kinds as load-strict-kinds
use Rattle.load.proofs.load_strict.Reads as load-strict-reads
use Rattle.load.proofs.blank.Kinds as blank-kinds
use Rattle.load.proofs.blank.Reads as blank-reads
use Rattle.load.proofs.no_metrics.Kinds as no-metrics-kinds
use Rattle.load.proofs.no_metrics.Reads as no-metrics-reads
use Rattle.modes.proofs.plain.Kinds as plain-kinds
use Rattle.modes.proofs.plain.Reads as plain-reads
use Rattle.modes.proofs.is_known.Kinds as is-known-kinds
use Rattle.modes.proofs.is_known.Reads as is-known-reads
use Rattle.modes.proofs.mode_of.Kinds as mode-of-kinds
use Rattle.modes.proofs.mode_of.Reads as mode-of-reads
use Rattle.lookup.proofs.glyph_of.Kinds as glyph-of-kinds
use Rattle.lookup.proofs.glyph_of.Reads as glyph-of-reads
use Rattle.lookup.proofs.stand_in.Kinds as stand-in-kinds
use Rattle.lookup.proofs.stand_in.Reads as stand-in-reads
use Rattle.lookup.proofs.or_else.Kinds as or-else-kinds
use Rattle.lookup.proofs.or_else.Reads as or-else-reads
use Rattle.lookup.proofs.or_stand_in.Kinds as or-stand-in-kinds
use Rattle.lookup.proofs.or_stand_in.Reads as or-stand-in-reads
use Rattle.lookup.proofs.serve.Kinds as serve-kinds
use Rattle.lookup.proofs.serve.Reads as serve-reads
use Rattle.lookup.proofs.get_glyph.Kinds as get-glyph-kinds
use Rattle.lookup.proofs.get_glyph.Reads as get-glyph-reads
use Rattle.names.proofs.string_at.Kinds as string-at-kinds
use Rattle.names.proofs.string_at.Reads as string-at-reads
use Rattle.names.proofs.get_name.Kinds as get-name-kinds
use Rattle.names.proofs.get_name.Reads as get-name-reads
use Rattle.props.proofs.prop_at.Kinds as prop-at-kinds
use Rattle.props.proofs.prop_at.Reads as prop-at-reads
use Rattle.metrics.proofs.metrics_of.Kinds as metrics-of-kinds
use Rattle.metrics.proofs.metrics_of.Reads as metrics-of-reads
use Rattle.metrics.proofs.get_metrics.Kinds as get-metrics-kinds
use Rattle.metrics.proofs.get_metrics.Reads as get-metrics-reads
use Rattle.metrics.proofs.get_accelerators.Kinds as get-accelerators-kinds
use Rattle.metrics.proofs.get_accelerators.Reads as get-accelerators-reads
use Rattle.place.proofs.dimensions.Kinds as dimensions-kinds
use Rattle.place.proofs.dimensions.Reads as dimensions-reads
use Rattle.names.proofs.part_of.Kinds as part-of-kinds
use Rattle.names.proofs.part_of.Reads as part-of-reads
use Rattle.names.proofs.name_bytes.Kinds as name-bytes-kinds
use Rattle.names.proofs.name_bytes.Reads as name-bytes-reads
use Rattle.bitmaps.proofs.no_bitmap.Kinds as no-bitmap-kinds
use Rattle.bitmaps.proofs.no_bitmap.Reads as no-bitmap-reads
use Rattle.bitmaps.proofs.held_byte.Kinds as held-byte-kinds
use Rattle.bitmaps.proofs.held_byte.Reads as held-byte-reads
use Rattle.bitmaps.proofs.order_of.Kinds as order-of-kinds
use Rattle.bitmaps.proofs.order_of.Reads as order-of-reads
use Rattle.bitmaps.proofs.shown.Kinds as shown-kinds
use Rattle.bitmaps.proofs.shown.Reads as shown-reads
use Rattle.bitmaps.proofs.bit_of.Kinds as bit-of-kinds
use Rattle.bitmaps.proofs.bit_of.Reads as bit-of-reads
use Rattle.bitmaps.proofs.unreadable.Kinds as unreadable-kinds
use Rattle.bitmaps.proofs.unreadable.Reads as unreadable-reads
use Rattle.bitmaps.proofs.row_bytes.Kinds as row-bytes-kinds
use Rattle.bitmaps.proofs.row_bytes.Reads as row-bytes-reads
use Rattle.bitmaps.proofs.row_stride.Kinds as row-stride-kinds
use Rattle.bitmaps.proofs.row_stride.Reads as row-stride-reads
use Rattle.bitmaps.proofs.offset_of.Kinds as offset-of-kinds
use Rattle.bitmaps.proofs.offset_of.Reads as offset-of-reads
use Rattle.bitmaps.proofs.row_byte.Kinds as row-byte-kinds
use Rattle.bitmaps.proofs.row_byte.Reads as row-byte-reads
use Rattle.bitmaps.proofs.bytes_past.Kinds as bytes-past-kinds
use Rattle.bitmaps.proofs.bytes_past.Reads as bytes-past-reads
use Rattle.bitmaps.proofs.rows_short.Kinds as rows-short-kinds
use Rattle.bitmaps.proofs.rows_short.Reads as rows-short-reads
use Rattle.hexline.proofs.hex_read.Kinds as hex-read-kinds
use Rattle.hexline.proofs.hex_read.Reads as hex-read-reads
use Rattle.lookup.proofs.code_range.Kinds as code-range-kinds
use Rattle.lookup.proofs.one_byte.Kinds as one-byte-kinds
use Rattle.lookup.proofs.code_range.Reads as code-range-reads
use Rattle.lookup.proofs.one_byte.Reads as one-byte-reads
use Rattle.names.proofs.name_of.Kinds as name-of-kinds
use Rattle.names.proofs.name_of.Reads as name-of-reads
use Rattle.place.proofs.bounds_hold.Kinds as bounds-hold-kinds
use Rattle.place.proofs.bounds_hold.Reads as bounds-hold-reads
use Rattle.place.proofs.boxed.Kinds as boxed-kinds
use Rattle.place.proofs.boxed.Reads as boxed-reads
use Rattle.place.proofs.info_of.Kinds as info-of-kinds
use Rattle.place.proofs.info_of.Reads as info-of-reads
use Rattle.props.proofs.prop_of.Kinds as prop-of-kinds
use Rattle.props.proofs.prop_of.Reads as prop-of-reads
use Rattle.vet.proofs.vet.Kinds as vet-kinds
use Rattle.vet.proofs.vet.Reads as vet-reads
use Rattle.hexline.proofs.fill_bytes.Kinds as fill-bytes-kinds
use Rattle.hexline.proofs.fill_bytes.Reads as fill-bytes-reads
use Rattle.frames.proofs.put_frame.Kinds as put-frame-kinds
use Rattle.frames.proofs.put_frame.Reads as put-frame-reads
use Rattle.frames.proofs.put_refused.Kinds as put-refused-kinds
use Rattle.frames.proofs.put_refused.Reads as put-refused-reads
use Rattle.dumper.proofs.print_dump.Kinds as print-dump-kinds
use Rattle.dumper.proofs.print_dump.Reads as print-dump-reads
use Rattle.outcome.proofs.ok_place.Kinds as ok-place-kinds
use Rattle.outcome.proofs.ok_place.Reads as ok-place-reads
use Rattle.outcome.proofs.ok_pair.Kinds as ok-pair-kinds
use Rattle.outcome.proofs.ok_pair.Reads as ok-pair-reads
use Rattle.outcome.proofs.shown_at.Kinds as shown-at-kinds
use Rattle.outcome.proofs.shown_at.Reads as shown-at-reads
use Rattle.outcome.proofs.rows_drawn.Kinds as rows-drawn-kinds
use Rattle.outcome.proofs.rows_drawn.Reads as rows-drawn-reads
use Rattle.outcome.proofs.corner_past.Kinds as corner-past-kinds
use Rattle.outcome.proofs.corner_past.Reads as corner-past-reads
use Rattle.outcome.proofs.rows_past.Kinds as rows-past-kinds
use Rattle.outcome.proofs.rows_past.Reads as rows-past-reads
use Rattle.outcome.proofs.unpacked_at.Kinds as unpacked-at-kinds
use Rattle.outcome.proofs.unpacked_at.Reads as unpacked-at-reads
use Rattle.outcome.proofs.bitmap_ready.Kinds as bitmap-ready-kinds
use Rattle.outcome.proofs.bitmap_ready.Reads as bitmap-ready-reads
use Rattle.outcome.proofs.bitmap_check.Kinds as bitmap-check-kinds
use Rattle.outcome.proofs.bitmap_check.Reads as bitmap-check-reads
use Rattle.place.proofs.char_info.Kinds as char-info-kinds
use Rattle.place.proofs.char_info.Reads as char-info-reads
use Rattle.place.proofs.prep_char.Kinds as prep-char-kinds
use Rattle.place.proofs.prep_char.Reads as prep-char-reads
use Rattle.glyphs.proofs.place_of.Kinds as place-of-kinds
use Rattle.glyphs.proofs.place_of.Reads as place-of-reads
use Rattle.glyphs.proofs.glyph_drawn.Kinds as glyph-drawn-kinds
use Rattle.glyphs.proofs.glyph_drawn.Reads as glyph-drawn-reads
use Rattle.glyphs.proofs.glyph_check.Kinds as glyph-check-kinds
use Rattle.glyphs.proofs.glyph_check.Reads as glyph-check-reads
use Rattle.glyphs.proofs.char_check.Kinds as char-check-kinds
use Rattle.glyphs.proofs.char_check.Reads as char-check-reads
use Rattle.glyphs.proofs.unpack_check.Kinds as unpack-check-kinds
use Rattle.glyphs.proofs.unpack_check.Reads as unpack-check-reads
use Rattle.paint.proofs.show_at.Kinds as show-at-kinds
use Rattle.paint.proofs.show_at.Reads as show-at-reads
use Rattle.paint.proofs.draw_bitmap.Kinds as draw-bitmap-kinds
use Rattle.paint.proofs.draw_bitmap.Reads as draw-bitmap-reads
use Rattle.unpack.proofs.unpack_at.Kinds as unpack-at-kinds
use Rattle.unpack.proofs.unpack_at.Reads as unpack-at-reads
use Rattle.glyphs.proofs.show_glyph.Kinds as show-glyph-kinds
use Rattle.glyphs.proofs.show_glyph.Reads as show-glyph-reads
use Rattle.glyphs.proofs.draw_glyph.Kinds as draw-glyph-kinds
use Rattle.glyphs.proofs.draw_glyph.Reads as draw-glyph-reads
use Rattle.glyphs.proofs.draw_char.Kinds as draw-char-kinds
use Rattle.glyphs.proofs.draw_char.Reads as draw-char-reads
use Rattle.glyphs.proofs.unpack_glyph.Kinds as unpack-glyph-kinds
use Rattle.glyphs.proofs.unpack_glyph.Reads as unpack-glyph-reads
use Rattle.place.proofs.bounds_sized.Kinds as bounds-sized-kinds
use Rattle.place.proofs.bounds_sized.Reads as bounds-sized-reads
use Rattle.why.proofs.why.Kinds as why-kinds
use Rattle.why.proofs.why.Reads as why-reads
use Rattle.why.proofs.reason_number.Kinds as reason-number-kinds
use Rattle.why.proofs.reason_number.Reads as reason-number-reads
use Rattle.utf8.proofs.step_at.Kinds as step-at-kinds
use Rattle.utf8.proofs.step_at.Reads as step-at-reads
use Rattle.utf8.proofs.check.Kinds as check-kinds
use Rattle.utf8.proofs.check.Reads as check-reads
use Rattle.text.proofs.wrap_of.Kinds as wrap-of-kinds
use Rattle.text.proofs.wrap_of.Reads as wrap-of-reads
use Rattle.text.proofs.text_check.Kinds as text-check-kinds
use Rattle.text.proofs.text_check.Reads as text-check-reads
use Rattle.text.proofs.draw_string.Kinds as draw-string-kinds
use Rattle.text.proofs.draw_string.Reads as draw-string-reads

pub byte_at_unique : Fixes 1 byte-at-kinds.ps byte-at-kinds.r byte-at-reads.Post
byte_at_unique κs a r₁ r₂ x₁ x₂ p q = p ∙ sym q

pub u16_at_unique : Fixes 1 u16-at-kinds.ps u16-at-kinds.r u16-at-reads.Post
u16_at_unique κs a r₁ r₂ x₁ x₂ p q = p ∙ sym q

pub u32_at_unique : Fixes 1 u32-at-kinds.ps u32-at-kinds.r u32-at-reads.Post
u32_at_unique κs a r₁ r₂ x₁ x₂ p q = p ∙ sym q

pub i16_at_unique : Fixes 1 i16-at-kinds.ps i16-at-kinds.r i16-at-reads.Post
i16_at_unique κs a r₁ r₂ x₁ x₂ p q = p ∙ sym q

pub i32_at_unique : Fixes 1 i32-at-kinds.ps i32-at-kinds.r i32-at-reads.Post
i32_at_unique κs a r₁ r₂ x₁ x₂ p q = p ∙ sym q

pub metric_of_unique : Fixes 0 metric-of-kinds.ps metric-of-kinds.r metric-of-reads.Post
metric_of_unique κs a r₁ r₂ x₁ x₂ p q = p ∙ sym q

pub reach_unique : Fixes 0 reach-kinds.ps reach-kinds.r reach-reads.Post
reach_unique κs a r₁ r₂ x₁ x₂ p q = p ∙ sym q

pub lies_in_unique : Fixes 0 lies-in-kinds.ps lies-in-kinds.r lies-in-reads.Post
lies_in_unique κs a r₁ r₂ x₁ x₂ p q = p ∙ sym q

pub properties_at_unique : Fixes 1 properties-at-kinds.ps properties-at-kinds.r properties-at-reads.Post
properties_at_unique κs a r₁ r₂ x₁ x₂ p q = p ∙ sym q

pub accelerators_at_unique : Fixes 1 accelerators-at-kinds.ps accelerators-at-kinds.r accelerators-at-reads.Post
accelerators_at_unique κs a r₁ r₂ x₁ x₂ p q = p ∙ sym q

pub metrics_at_unique : Fixes 1 metrics-at-kinds.ps metrics-at-kinds.r metrics-at-reads.Post
metrics_at_unique κs a r₁ r₂ x₁ x₂ p q = p ∙ sym q

pub metric_bytes_unique : Fixes 0 metric-bytes-kinds.ps metric-bytes-kinds.r metric-bytes-reads.Post
metric_bytes_unique κs a r₁ r₂ x₁ x₂ p q = p.0 ∙ sym q.0

pub bitmaps_at_unique : Fixes 1 bitmaps-at-kinds.ps bitmaps-at-kinds.r bitmaps-at-reads.Post
bitmaps_at_unique κs a r₁ r₂ x₁ x₂ p q = p ∙ sym q

pub codes_at_unique : Fixes 1 codes-at-kinds.ps codes-at-kinds.r codes-at-reads.Post
codes_at_unique κs a r₁ r₂ x₁ x₂ p q = p ∙ sym q

pub names_at_unique : Fixes 1 names-at-kinds.ps names-at-kinds.r names-at-reads.Post
names_at_unique κs a r₁ r₂ x₁ x₂ p q = p ∙ sym q

pub wide_at_unique : Fixes 1 wide-at-kinds.ps wide-at-kinds.r wide-at-reads.Post
wide_at_unique κs a r₁ r₂ x₁ x₂ p q = p ∙ sym q

pub narrow_at_unique : Fixes 1 narrow-at-kinds.ps narrow-at-kinds.r narrow-at-reads.Post
narrow_at_unique κs a r₁ r₂ x₁ x₂ p q = p ∙ sym q

pub is_inside_unique : Fixes 0 is-inside-kinds.ps is-inside-kinds.r is-inside-reads.Post
is_inside_unique κs a r₁ r₂ x₁ x₂ p q = p ∙ sym q

pub record_fits_unique : Fixes 0 record-fits-kinds.ps record-fits-kinds.r record-fits-reads.Post
record_fits_unique κs a r₁ r₂ x₁ x₂ p q = p ∙ sym q

pub guard_unique : Fixes 0 guard-kinds.ps guard-kinds.r guard-reads.Post
guard_unique κs a r₁ r₂ x₁ x₂ p q = p ∙ sym q

pub load_in_unique : Fixes 1 load-in-kinds.ps load-in-kinds.r load-in-reads.Post
load_in_unique κs a r₁ r₂ x₁ x₂ p q = p ∙ sym q

pub load_pcf_unique : Fixes 1 load-pcf-kinds.ps load-pcf-kinds.r load-pcf-reads.Post
load_pcf_unique κs a r₁ r₂ x₁ x₂ p q = p ∙ sym q

pub load_strict_unique : Fixes 1 load-strict-kinds.ps load-strict-kinds.r load-strict-reads.Post
load_strict_unique κs a r₁ r₂ x₁ x₂ p q = p ∙ sym q

pub blank_unique : Fixes 0 blank-kinds.ps blank-kinds.r blank-reads.Post
blank_unique κs a r₁ r₂ x₁ x₂ p q = p ∙ sym q

pub no_metrics_unique : Fixes 0 no-metrics-kinds.ps no-metrics-kinds.r no-metrics-reads.Post
no_metrics_unique κs a r₁ r₂ x₁ x₂ p q = p ∙ sym q

pub glyph_of_unique : Fixes 1 glyph-of-kinds.ps glyph-of-kinds.r glyph-of-reads.Post
glyph_of_unique κs a r₁ r₂ x₁ x₂ p q = p ∙ sym q

pub plain_unique : Fixes 0 plain-kinds.ps plain-kinds.r plain-reads.Post
plain_unique κs a r₁ r₂ x₁ x₂ p q = p ∙ sym q

pub is_known_unique : Fixes 0 is-known-kinds.ps is-known-kinds.r is-known-reads.Post
is_known_unique κs a r₁ r₂ x₁ x₂ p q = p ∙ sym q

pub mode_of_unique : Fixes 0 mode-of-kinds.ps mode-of-kinds.r mode-of-reads.Post
mode_of_unique κs a r₁ r₂ x₁ x₂ p q = p ∙ sym q

pub stand_in_unique : Fixes 1 stand-in-kinds.ps stand-in-kinds.r stand-in-reads.Post
stand_in_unique κs a r₁ r₂ x₁ x₂ p q = p ∙ sym q

pub or_else_unique : Fixes 0 or-else-kinds.ps or-else-kinds.r or-else-reads.Post
or_else_unique κs a r₁ r₂ x₁ x₂ p q = p ∙ sym q

pub or_stand_in_unique : Fixes 1 or-stand-in-kinds.ps or-stand-in-kinds.r or-stand-in-reads.Post
or_stand_in_unique κs a r₁ r₂ x₁ x₂ p q = p ∙ sym q

pub serve_unique : Fixes 1 serve-kinds.ps serve-kinds.r serve-reads.Post
serve_unique κs a r₁ r₂ x₁ x₂ p q = p ∙ sym q

pub get_glyph_unique : Fixes 1 get-glyph-kinds.ps get-glyph-kinds.r get-glyph-reads.Post
get_glyph_unique κs a r₁ r₂ x₁ x₂ p q = p ∙ sym q

pub string_at_unique : Fixes 1 string-at-kinds.ps string-at-kinds.r string-at-reads.Post
string_at_unique κs a r₁ r₂ x₁ x₂ p q = p ∙ sym q

pub get_name_unique : Fixes 1 get-name-kinds.ps get-name-kinds.r get-name-reads.Post
get_name_unique κs a r₁ r₂ x₁ x₂ p q = p ∙ sym q

pub prop_at_unique : Fixes 1 prop-at-kinds.ps prop-at-kinds.r prop-at-reads.Post
prop_at_unique κs a r₁ r₂ x₁ x₂ p q = p ∙ sym q

pub metrics_of_unique : Fixes 1 metrics-of-kinds.ps metrics-of-kinds.r metrics-of-reads.Post
metrics_of_unique κs a r₁ r₂ x₁ x₂ p q = p ∙ sym q

pub get_metrics_unique : Fixes 1 get-metrics-kinds.ps get-metrics-kinds.r get-metrics-reads.Post
get_metrics_unique κs a r₁ r₂ x₁ x₂ p q = p ∙ sym q

pub get_accelerators_unique : Fixes 1 get-accelerators-kinds.ps get-accelerators-kinds.r get-accelerators-reads.Post
get_accelerators_unique κs a r₁ r₂ x₁ x₂ p q = p ∙ sym q

pub dimensions_unique : Fixes 1 dimensions-kinds.ps dimensions-kinds.r dimensions-reads.Post
dimensions_unique κs a r₁ r₂ x₁ x₂ p q = p ∙ sym q

pub no_bitmap_unique : Fixes 0 no-bitmap-kinds.ps no-bitmap-kinds.r no-bitmap-reads.Post
no_bitmap_unique κs a r₁ r₂ x₁ x₂ p q = p ∙ sym q

pub held_byte_unique : Fixes 0 held-byte-kinds.ps held-byte-kinds.r held-byte-reads.Post
held_byte_unique κs a r₁ r₂ x₁ x₂ p q = p ∙ sym q

pub order_of_unique : Fixes 0 order-of-kinds.ps order-of-kinds.r order-of-reads.Post
order_of_unique κs a r₁ r₂ x₁ x₂ p q = p ∙ sym q

pub shown_unique : Fixes 0 shown-kinds.ps shown-kinds.r shown-reads.Post
shown_unique κs a r₁ r₂ x₁ x₂ p q = p ∙ sym q

pub bit_of_unique : Fixes 0 bit-of-kinds.ps bit-of-kinds.r bit-of-reads.Post
bit_of_unique κs a r₁ r₂ x₁ x₂ p q = p ∙ sym q

pub unreadable_unique : Fixes 0 unreadable-kinds.ps unreadable-kinds.r unreadable-reads.Post
unreadable_unique κs a r₁ r₂ x₁ x₂ p q = p ∙ sym q

pub row_bytes_unique : Fixes 0 row-bytes-kinds.ps row-bytes-kinds.r row-bytes-reads.Post
row_bytes_unique κs a r₁ r₂ x₁ x₂ p q = p ∙ sym q

pub row_stride_unique : Fixes 0 row-stride-kinds.ps row-stride-kinds.r row-stride-reads.Post
row_stride_unique κs a r₁ r₂ x₁ x₂ p q = p ∙ sym q

pub offset_of_unique : Fixes 1 offset-of-kinds.ps offset-of-kinds.r offset-of-reads.Post
offset_of_unique κs a r₁ r₂ x₁ x₂ p q = p ∙ sym q

pub row_byte_unique : Fixes 1 row-byte-kinds.ps row-byte-kinds.r row-byte-reads.Post
row_byte_unique κs a r₁ r₂ x₁ x₂ p q = p ∙ sym q

pub bytes_past_unique : Fixes 1 bytes-past-kinds.ps bytes-past-kinds.r bytes-past-reads.Post
bytes_past_unique κs a r₁ r₂ x₁ x₂ p q = p ∙ sym q

pub rows_short_unique : Fixes 1 rows-short-kinds.ps rows-short-kinds.r rows-short-reads.Post
rows_short_unique κs a r₁ r₂ x₁ x₂ p q = p ∙ sym q

pub hex_read_unique : Fixes 1 hex-read-kinds.ps hex-read-kinds.r hex-read-reads.Post
hex_read_unique κs a r₁ r₂ x₁ x₂ p q = p ∙ sym q

pub one_byte_unique : Fixes 0 one-byte-kinds.ps one-byte-kinds.r one-byte-reads.Post
one_byte_unique κs a r₁ r₂ x₁ x₂ p q = p ∙ sym q

pub code_range_unique : Fixes 0 code-range-kinds.ps code-range-kinds.r code-range-reads.Post
code_range_unique κs a r₁ r₂ x₁ x₂ p q = p ∙ sym q

pub name_of_unique : Fixes 1 name-of-kinds.ps name-of-kinds.r name-of-reads.Post
name_of_unique κs a r₁ r₂ x₁ x₂ p q = p ∙ sym q

pub bounds_hold_unique : Fixes 0 bounds-hold-kinds.ps bounds-hold-kinds.r bounds-hold-reads.Post
bounds_hold_unique κs a r₁ r₂ x₁ x₂ p q = p ∙ sym q

pub boxed_unique : Fixes 0 boxed-kinds.ps boxed-kinds.r boxed-reads.Post
boxed_unique κs a r₁ r₂ x₁ x₂ p q = p ∙ sym q

pub info_of_unique : Fixes 1 info-of-kinds.ps info-of-kinds.r info-of-reads.Post
info_of_unique κs a r₁ r₂ x₁ x₂ p q = p ∙ sym q

pub prop_of_unique : Fixes 1 prop-of-kinds.ps prop-of-kinds.r prop-of-reads.Post
prop_of_unique κs a r₁ r₂ x₁ x₂ p q = p ∙ sym q

pub vet_unique : Fixes 1 vet-kinds.ps vet-kinds.r vet-reads.Post
vet_unique κs a r₁ r₂ x₁ x₂ p q = p ∙ sym q

pub print_dump_unique : Fixes 1 print-dump-kinds.ps print-dump-kinds.r print-dump-reads.Post
print_dump_unique κs a r₁ r₂ x₁ x₂ p q = p ∙ sym q

-- the returned part's bytes and its place
pub part_of_unique : FixesPart 1 part-of-kinds.ps part-of-kinds.r part-of-reads.Post (λ κs r. r)
part_of_unique κs a r₁ r₂ x₁ x₂ p q = (p.0 ∙ sym q.0, p.1 ∙ sym q.1)

pub name_bytes_unique : FixesPart 1 name-bytes-kinds.ps name-bytes-kinds.r name-bytes-reads.Post (λ κs r. r)
name_bytes_unique κs a r₁ r₂ x₁ x₂ p q = (p.0 ∙ sym q.0, p.1 ∙ sym q.1)

-- of a call that is lent a buffer: the answer is one value, and the buffer is left as the answer says

pub fill_bytes_unique : FixesLent 2 fill-bytes-kinds.ps fill-bytes-kinds.r fill-bytes-reads.Post (λ κs x. x.1.0.now)
fill_bytes_unique κs a r₁ r₂ x₁ x₂ p q = (p.0 ∙ sym q.0, p.1 ∙ rw (p.0, q.0) refl ∙ sym q.1)

pub put_frame_unique : FixesLent 2 put-frame-kinds.ps put-frame-kinds.r put-frame-reads.Post (λ κs x. x.1.1.1.0.now)
put_frame_unique κs a r₁ r₂ x₁ x₂ p q = (p.0 ∙ sym q.0, p.1 ∙ rw (p.0, q.0) refl ∙ sym q.1)

pub put_refused_unique : FixesLent 1 put-refused-kinds.ps put-refused-kinds.r put-refused-reads.Post (λ κs x. x.1.0.now)
put_refused_unique κs a r₁ r₂ x₁ x₂ p q = (p.0 ∙ sym q.0, p.1 ∙ rw (p.0, q.0) refl ∙ sym q.1)

pub ok_place_unique : Fixes 0 ok-place-kinds.ps ok-place-kinds.r ok-place-reads.Post
ok_place_unique κs a r₁ r₂ x₁ x₂ p q = p ∙ sym q

pub ok_pair_unique : Fixes 0 ok-pair-kinds.ps ok-pair-kinds.r ok-pair-reads.Post
ok_pair_unique κs a r₁ r₂ x₁ x₂ p q = p ∙ sym q

pub rows_drawn_unique : Fixes 0 rows-drawn-kinds.ps rows-drawn-kinds.r rows-drawn-reads.Post
rows_drawn_unique κs a r₁ r₂ x₁ x₂ p q = p ∙ sym q

pub corner_past_unique : Fixes 0 corner-past-kinds.ps corner-past-kinds.r corner-past-reads.Post
corner_past_unique κs a r₁ r₂ x₁ x₂ p q = p ∙ sym q

pub rows_past_unique : Fixes 1 rows-past-kinds.ps rows-past-kinds.r rows-past-reads.Post
rows_past_unique κs a r₁ r₂ x₁ x₂ p q = p ∙ sym q

pub shown_at_unique : Fixes 1 shown-at-kinds.ps shown-at-kinds.r shown-at-reads.Post
shown_at_unique κs a r₁ r₂ x₁ x₂ p q = p ∙ sym q

pub unpacked_at_unique : Fixes 1 unpacked-at-kinds.ps unpacked-at-kinds.r unpacked-at-reads.Post
unpacked_at_unique κs a r₁ r₂ x₁ x₂ p q = p ∙ sym q

pub bitmap_ready_unique : Fixes 1 bitmap-ready-kinds.ps bitmap-ready-kinds.r bitmap-ready-reads.Post
bitmap_ready_unique κs a r₁ r₂ x₁ x₂ p q = p ∙ sym q

pub bitmap_check_unique : Fixes 1 bitmap-check-kinds.ps bitmap-check-kinds.r bitmap-check-reads.Post
bitmap_check_unique κs a r₁ r₂ x₁ x₂ p q = p ∙ sym q

pub char_info_unique : Fixes 1 char-info-kinds.ps char-info-kinds.r char-info-reads.Post
char_info_unique κs a r₁ r₂ x₁ x₂ p q = p ∙ sym q

pub prep_char_unique : Fixes 1 prep-char-kinds.ps prep-char-kinds.r prep-char-reads.Post
prep_char_unique κs a r₁ r₂ x₁ x₂ p q = p ∙ sym q

pub place_of_unique : Fixes 0 place-of-kinds.ps place-of-kinds.r place-of-reads.Post
place_of_unique κs a r₁ r₂ x₁ x₂ p q = p ∙ sym q

pub glyph_drawn_unique : Fixes 1 glyph-drawn-kinds.ps glyph-drawn-kinds.r glyph-drawn-reads.Post
glyph_drawn_unique κs a r₁ r₂ x₁ x₂ p q = p ∙ sym q

pub glyph_check_unique : Fixes 1 glyph-check-kinds.ps glyph-check-kinds.r glyph-check-reads.Post
glyph_check_unique κs a r₁ r₂ x₁ x₂ p q = p ∙ sym q

pub char_check_unique : Fixes 1 char-check-kinds.ps char-check-kinds.r char-check-reads.Post
char_check_unique κs a r₁ r₂ x₁ x₂ p q = p ∙ sym q

pub unpack_check_unique : Fixes 1 unpack-check-kinds.ps unpack-check-kinds.r unpack-check-reads.Post
unpack_check_unique κs a r₁ r₂ x₁ x₂ p q = p ∙ sym q

pub show_at_unique : FixesLent 2 show-at-kinds.ps show-at-kinds.r show-at-reads.Post (λ κs x. x.1.1.1.1.1.0.now)
show_at_unique κs a r₁ r₂ x₁ x₂ p q = (p.0 ∙ sym q.0, p.1 ∙ rw (p.0, q.0) refl ∙ sym q.1)

pub draw_bitmap_unique : FixesLent 2 draw-bitmap-kinds.ps draw-bitmap-kinds.r draw-bitmap-reads.Post (λ κs x. x.1.1.1.1.1.0.now)
draw_bitmap_unique κs a r₁ r₂ x₁ x₂ p q = (p.0 ∙ sym q.0, p.1 ∙ rw (p.0, q.0) refl ∙ sym q.1)

pub unpack_at_unique : FixesLent 2 unpack-at-kinds.ps unpack-at-kinds.r unpack-at-reads.Post (λ κs x. x.1.1.1.1.1.0.now)
unpack_at_unique κs a r₁ r₂ x₁ x₂ p q = (p.0 ∙ sym q.0, p.1 ∙ rw (p.0, q.0) refl ∙ sym q.1)

pub show_glyph_unique : FixesLent 2 show-glyph-kinds.ps show-glyph-kinds.r show-glyph-reads.Post (λ κs x. x.1.1.1.0.now)
show_glyph_unique κs a r₁ r₂ x₁ x₂ p q = (p.0 ∙ sym q.0, p.1 ∙ rw (p.0, q.0) refl ∙ sym q.1)

pub draw_glyph_unique : FixesLent 2 draw-glyph-kinds.ps draw-glyph-kinds.r draw-glyph-reads.Post (λ κs x. x.1.1.1.1.0.now)
draw_glyph_unique κs a r₁ r₂ x₁ x₂ p q = (p.0 ∙ sym q.0, p.1 ∙ rw (p.0, q.0) refl ∙ sym q.1)

pub draw_char_unique : FixesLent 2 draw-char-kinds.ps draw-char-kinds.r draw-char-reads.Post (λ κs x. x.1.1.1.1.0.now)
draw_char_unique κs a r₁ r₂ x₁ x₂ p q = (p.0 ∙ sym q.0, p.1 ∙ rw (p.0, q.0) refl ∙ sym q.1)

pub unpack_glyph_unique : FixesLent 2 unpack-glyph-kinds.ps unpack-glyph-kinds.r unpack-glyph-reads.Post (λ κs x. x.1.1.1.1.0.now)
unpack_glyph_unique κs a r₁ r₂ x₁ x₂ p q = (p.0 ∙ sym q.0, p.1 ∙ rw (p.0, q.0) refl ∙ sym q.1)

pub bounds_sized_unique : Fixes 0 bounds-sized-kinds.ps bounds-sized-kinds.r bounds-sized-reads.Post
bounds_sized_unique κs a r₁ r₂ x₁ x₂ p q = p ∙ sym q

pub why_unique : Fixes 1 why-kinds.ps why-kinds.r why-reads.Post
why_unique κs a r₁ r₂ x₁ x₂ p q = p ∙ sym q

pub reason_number_unique : Fixes 0 reason-number-kinds.ps reason-number-kinds.r reason-number-reads.Post
reason_number_unique κs a r₁ r₂ x₁ x₂ p q = p ∙ sym q

pub step_at_unique : Fixes 1 step-at-kinds.ps step-at-kinds.r step-at-reads.Post
step_at_unique κs a r₁ r₂ x₁ x₂ p q = p ∙ sym q

pub check_unique : Fixes 1 check-kinds.ps check-kinds.r check-reads.Post
check_unique κs a r₁ r₂ x₁ x₂ p q = p ∙ sym q

pub wrap_of_unique : Fixes 0 wrap-of-kinds.ps wrap-of-kinds.r wrap-of-reads.Post
wrap_of_unique κs a r₁ r₂ x₁ x₂ p q = p ∙ sym q

pub text_check_unique : Fixes 2 text-check-kinds.ps text-check-kinds.r text-check-reads.Post
text_check_unique κs a r₁ r₂ x₁ x₂ p q = p ∙ sym q

pub draw_string_unique : FixesLent 3 draw-string-kinds.ps draw-string-kinds.r draw-string-reads.Post (λ κs x. x.1.1.1.1.0.now)
draw_string_unique κs a r₁ r₂ x₁ x₂ p q = (p.0 ∙ sym q.0, p.1 ∙ rw (p.0, q.0) refl ∙ sym q.1)

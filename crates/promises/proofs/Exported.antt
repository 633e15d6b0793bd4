-- What a caller in C reads off an exported function's answer is what document 01 says of the library's: number and place on a refusal, and
-- the values where `refusal` is 0.
use mathlib.Core.Path.{◌≡◌, refl}
use mathlib.Core.Bool.{true, cond}
use mathlib.Core.List.{List}
use Prim.Native.Nat.{ℕ, zero, suc}
use lib.IntN.{ℤ}
use Rattle.reads.specs.Said.{refusal, refuses}
use Rattle.reads.proofs.Numbers.{nought_answers}
use Rattle.tables.specs.Fits.{guarded}
use Rattle.tables.specs.declared.Record.{Record}
use Rattle.modes.specs.Modes.{is_known, mode_of}
use Rattle.modes.specs.declared.Mode.{Mode}
use Rattle.load.specs.Load.{loaded, loaded_strictly, said_loaded}
use Rattle.load.specs.declared.Loaded.{Loaded}
use Rattle.vet.specs.Vet.{vetted, said_vetted}
use Rattle.vet.specs.declared.Vetted.{Vetted}
use Rattle.lookup.specs.Served.{served, said_served}
use Rattle.lookup.specs.declared.Served.{Served}
use Rattle.names.specs.Names.{get_name, said_named}
use Rattle.names.specs.declared.Named.{Named}
use Rattle.names.specs.declared.Span.{Span}
use Rattle.props.specs.Props.{prop_at, said_prop}
use Rattle.props.specs.declared.PropValue.{PropValue}
use Rattle.props.specs.declared.PropFound.{PropFound}
use Rattle.metrics.specs.Measure.{get_metrics, get_accelerators, said_measured, said_accelerated}
use Rattle.metrics.specs.declared.Accelerated.{Accelerated}
use Rattle.metrics.specs.declared.Measured.{Measured}
use Rattle.bitmaps.specs.Place.{Place}
use Rattle.bitmaps.specs.Draw.{draw_bitmap, said_drawn}
use Rattle.bitmaps.specs.Unpack.{said_unpacked}
use Rattle.bitmaps.specs.declared.Drawn.{Drawn}
use Rattle.bitmaps.specs.declared.Unpacked.{Unpacked}
use Rattle.place.specs.Bounds.{dimensions, said_sized}
use Rattle.place.specs.Info.{prepared_in, said_char_prepared}
use Rattle.place.specs.declared.Sized.{Sized}
use Rattle.place.specs.declared.GlyphInfo.{GlyphInfo}
use Rattle.place.specs.declared.CharPrepared.{CharPrepared}
use Rattle.glyphs.specs.Glyph.{draw_glyph}
use Rattle.glyphs.specs.Char.{draw_char, said_char}
use Rattle.glyphs.specs.Unpack.{unpack_glyph}
use Rattle.glyphs.specs.declared.CharDrawn.{CharDrawn}
use Rattle.why.specs.Why.{why_of, said_told}
use Rattle.why.specs.declared.Told.{Told}
use Rattle.utf8.specs.Step.{step_at, said_step}
use Rattle.utf8.specs.declared.Step.{Step}
use Rattle.text.specs.Text.{draw_string, said_text}
use Rattle.text.specs.declared.Layout.{Layout}
use Rattle.text.specs.declared.TextDrawn.{TextDrawn}
use Rattle.font.specs.Shown.{as_loaded, record_of}
use Rattle.font.specs.declared.Reading.{Reading}
use Rattle.thalluskin.specs.Reading.{font_answer, prop_answer, property_answer, glyph_answer, name_answer, metrics_answer, accel_answer}
use Rattle.thalluskin.specs.Placing.{extent_answer, info_answer}
use Rattle.thalluskin.specs.Drawing.{rows_answer, char_answer, unpack_answer}
use Rattle.thalluskin.specs.Texts.{text_answer, step_answer}
use Rattle.thalluskin.specs.Reasons.{why_answer}
use Rattle.load.proofs.Refusals.{load_pcf_refusals, load_strict_refusals}
use Rattle.utf8.proofs.Refusals.{step_at_refusals}
use Rattle.vet.proofs.Refusals.{vet_refusals}
use Rattle.promises.specs.Refusals.{Answers}
use Rattle.promises.specs.Exported.{read_off, says_font, says_property, says_glyph, says_name, says_metrics, says_accel, says_extent, says_info, says_rows, says_char, says_why, says_unpack, says_text, says_step}
use Rattle.promises.proofs.Refusals.{
  prop_at_refusals,
  get_name_refusals,
  get_metrics_refusals,
  get_accelerators_refusals,
  dimensions_refusals,
  why_refusals,
}
use Rattle.promises.proofs.DrawingRefusals.{
  draw_bitmap_refusals,
  draw_glyph_refusals,
  draw_char_refusals,
  unpack_glyph_refusals,
  draw_string_refusals,
}
use Rattle.promises.proofs.ExportedRefusals.{thalluskin_glyph_refusals, thalluskin_prep_char_refusals}

-- beside a refusal's number no value is read
a_refusal : (n place : ℕ) (values : List ℤ) → Answers (refuses (refusal n place)) → read_off n place values ≡ refuses (refusal n place)
a_refusal zero place values h = absurd (h refl refl)
a_refusal (suc n) place values h = refl

font_read : (x : Loaded) → Answers (said_loaded x) → says_font (font_answer x) ≡ said_loaded x
font_read (Loaded.Font rec) h = refl
font_read (Loaded.Refused r) h = a_refusal r.number r.place _ h

vet_read : (x : Vetted) → Answers (said_vetted x) → says_font (font_answer (as_loaded x)) ≡ said_vetted x
vet_read (Vetted.Passed rec) h = refl
vet_read (Vetted.Refused r) h = a_refusal r.number r.place _ h

glyph_read : (x : Served) → Answers (said_served x) → says_glyph (glyph_answer x) ≡ said_served x
glyph_read (Served.Glyph g by) h = refl
glyph_read (Served.Refused r) h = a_refusal r.number r.place _ h

name_read : (x : Named) → Answers (said_named x) → says_name (name_answer x) ≡ said_named x
name_read (Named.Name p) h = refl
name_read (Named.Refused r) h = a_refusal r.number r.place _ h

metrics_read : (x : Measured) → Answers (said_measured x) → says_metrics (metrics_answer x) ≡ said_measured x
metrics_read (Measured.Metrics m) h = refl
metrics_read (Measured.Refused r) h = a_refusal r.number r.place _ h

accel_read : (x : Accelerated) → Answers (said_accelerated x) → says_accel (accel_answer x) ≡ said_accelerated x
accel_read (Accelerated.Accelerators a) h = refl
accel_read (Accelerated.Refused r) h = a_refusal r.number r.place _ h

extent_read : (x : Sized) → Answers (said_sized x) → says_extent (extent_answer x) ≡ said_sized x
extent_read (Sized.Dimensions d) h = refl
extent_read (Sized.Refused r) h = a_refusal r.number r.place _ h

info_read : (x : CharPrepared) → Answers (said_char_prepared x) → says_info (info_answer x) ≡ said_char_prepared x
info_read (CharPrepared.Info i by) h = refl
info_read (CharPrepared.Refused r) h = a_refusal r.number r.place _ h

rows_read : (x : Drawn) → Answers (said_drawn x) → says_rows (rows_answer x) ≡ said_drawn x
rows_read (Drawn.Rows n) h = refl
rows_read (Drawn.Refused r) h = a_refusal r.number r.place _ h

char_read : (x : CharDrawn) → Answers (said_char x) → says_char (char_answer x) ≡ said_char x
char_read (CharDrawn.Glyph i n by) h = refl
char_read (CharDrawn.Refused r) h = a_refusal r.number r.place _ h

why_read : (x : Told) → Answers (said_told x) → says_why (why_answer x) ≡ said_told x
why_read (Told.Because r by) h = refl
why_read (Told.Refused r) h = a_refusal r.number r.place _ h

unpack_read : (x : Unpacked) → Answers (said_unpacked x) → says_unpack (unpack_answer x) ≡ said_unpacked x
unpack_read (Unpacked.Rows n) h = refl
unpack_read (Unpacked.Refused r) h = a_refusal r.number r.place _ h

text_read : (x : TextDrawn) → Answers (said_text x) → says_text (text_answer x) ≡ said_text x
text_read (TextDrawn.Done t) h = refl
text_read (TextDrawn.Refused r) h = a_refusal r.number r.place _ h

step_read : (x : Step) → Answers (said_step x) → says_step (step_answer x) ≡ said_step x
step_read (Step.Char c next) h = refl
step_read Step.End h = refl
step_read (Step.Refused r) h = a_refusal r.number r.place _ h

value_read : (name : Span) (v : PropValue) → says_property (prop_answer (record { name = name; value = v })) ≡ said_prop (PropFound.Property (record { name = name; value = v }))
value_read name (PropValue.Number n) = refl
value_read name (PropValue.String p) = refl

property_read : (x : PropFound) → Answers (said_prop x) → says_property (property_answer x) ≡ said_prop x
property_read (PropFound.Property p) h = value_read p.name p.value
property_read (PropFound.Refused r) h = a_refusal r.number r.place _ h

pub load_says : (s : List ℕ) → says_font (font_answer (loaded s)) ≡ said_loaded (loaded s)
load_says s = font_read (loaded s) (nought_answers refl (load_pcf_refusals s))

pub load_strict_says : (s : List ℕ) → says_font (font_answer (loaded_strictly s)) ≡ said_loaded (loaded_strictly s)
load_strict_says s = font_read (loaded_strictly s) (nought_answers refl (load_strict_refusals s))

-- in a known mode; in any other number it is `vet_unknown`
pub vet_says : (s : List ℕ) (mode : ℕ) → is_known mode ≡ true
    → says_font (font_answer (cond (is_known mode) (record_of s Reading.Vetted) (Loaded.Refused (refusal 15 0)))) ≡ said_vetted (vetted s)
unfolding record_of
vet_says s mode known = rw known (vet_read (vetted s) (nought_answers refl (vet_refusals s)))

pub property_says : (s : List ℕ) (rec : Record) (number : ℕ) → says_property (property_answer (prop_at s rec number)) ≡ said_prop (prop_at s rec number)
property_says s rec number = property_read (prop_at s rec number) (nought_answers refl (prop_at_refusals s rec number).numbered)

pub glyph_says : (s : List ℕ) (rec : Record) (code mode : ℕ)
    → let g = guarded Served.Refused s rec (is_known mode) (served s rec.codes (mode_of mode) code) in says_glyph (glyph_answer g) ≡ said_served g
glyph_says s rec code mode =
    let g = guarded Served.Refused s rec (is_known mode) (served s rec.codes (mode_of mode) code) in
    glyph_read g (nought_answers refl (thalluskin_glyph_refusals s rec code mode).numbered)

pub name_says : (s : List ℕ) (rec : Record) (glyph : ℕ) → says_name (name_answer (get_name s rec glyph)) ≡ said_named (get_name s rec glyph)
name_says s rec glyph = name_read (get_name s rec glyph) (nought_answers refl (get_name_refusals s rec glyph).numbered)

pub metrics_says : (s : List ℕ) (rec : Record) (glyph : ℕ) → says_metrics (metrics_answer (get_metrics s rec glyph)) ≡ said_measured (get_metrics s rec glyph)
metrics_says s rec glyph = metrics_read (get_metrics s rec glyph) (nought_answers refl (get_metrics_refusals s rec glyph).numbered)

pub accel_says : (s : List ℕ) (rec : Record) → says_accel (accel_answer (get_accelerators s rec)) ≡ said_accelerated (get_accelerators s rec)
accel_says s rec = accel_read (get_accelerators s rec) (nought_answers refl (get_accelerators_refusals s rec).numbered)

pub dimensions_says : (s : List ℕ) (rec : Record) → says_extent (extent_answer (dimensions s rec)) ≡ said_sized (dimensions s rec)
dimensions_says s rec = extent_read (dimensions s rec) (nought_answers refl (dimensions_refusals s rec).numbered)

pub prep_char_says : (s : List ℕ) (rec : Record) (code mode : ℕ)
    → let p = guarded CharPrepared.Refused s rec (is_known mode) (prepared_in s rec (mode_of mode) code) in says_info (info_answer p) ≡ said_char_prepared p
prep_char_says s rec code mode =
    let p = guarded CharPrepared.Refused s rec (is_known mode) (prepared_in s rec (mode_of mode) code) in
    info_read p (nought_answers refl (thalluskin_prep_char_refusals s rec code mode).numbered)

pub draw_bitmap_says : (s : List ℕ) (rec : Record) (glyph width height len : ℕ) (at : Place)
    → let d = draw_bitmap s rec glyph width height len at in says_rows (rows_answer d) ≡ said_drawn d
draw_bitmap_says s rec glyph width height len at =
    rows_read (draw_bitmap s rec glyph width height len at) (nought_answers refl (draw_bitmap_refusals s rec glyph width height len at).numbered)

pub draw_glyph_says : (s : List ℕ) (rec : Record) (mode : Mode) (info : GlyphInfo) (len : ℕ) (at : Place)
    → let d = draw_glyph s rec mode info len at in says_rows (rows_answer d) ≡ said_drawn d
draw_glyph_says s rec mode info len at =
    rows_read (draw_glyph s rec mode info len at) (nought_answers refl (draw_glyph_refusals s rec mode info len at).numbered)

pub draw_char_says : (s : List ℕ) (rec : Record) (mode : Mode) (code len : ℕ) (at : Place)
    → let d = draw_char s rec mode code len at in says_char (char_answer d) ≡ said_char d
draw_char_says s rec mode code len at =
    char_read (draw_char s rec mode code len at) (nought_answers refl (draw_char_refusals s rec mode code len at).numbered)

pub why_says : (s : List ℕ) (rec : Record) (mode : Mode) (code len : ℕ) (at : Place)
    → let t = why_of s rec mode code len at in says_why (why_answer t) ≡ said_told t
why_says s rec mode code len at = why_read (why_of s rec mode code len at) (nought_answers refl (why_refusals s rec mode code len at).numbered)

pub unpack_glyph_says : (s : List ℕ) (rec : Record) (mode : Mode) (info : GlyphInfo) (len start stride : ℕ)
    → let u = unpack_glyph s rec mode info len start stride in says_unpack (unpack_answer u) ≡ said_unpacked u
unpack_glyph_says s rec mode info len start stride =
    unpack_read (unpack_glyph s rec mode info len start stride) (nought_answers refl (unpack_glyph_refusals s rec mode info len start stride).numbered)

-- of the drawing and of its dry run, which answer the same
pub draw_string_says : (s : List ℕ) (rec : Record) (mode : Mode) (text : List ℕ) (len : ℕ) (lay : Layout)
    → let d = draw_string s rec mode text len lay in says_text (text_answer d) ≡ said_text d
draw_string_says s rec mode text len lay =
    text_read (draw_string s rec mode text len lay) (nought_answers refl (draw_string_refusals s rec mode text len lay).numbered)

pub utf8_step_says : (text : List ℕ) (i : ℕ) → says_step (step_answer (step_at text i)) ≡ said_step (step_at text i)
utf8_step_says text i = step_read (step_at text i) (nought_answers refl (step_at_refusals text i))

-- What a caller in C reads off an answer: the values where `refusal` is 0, else that number and the place. And what a call with a record
-- answers in an unknown mode.
use Rattle.std.specs.Prelude.{cond, List, [], ◌∷◌, ◌++◌, ℕ, zero, suc, ℤ, pos}
use Rattle.reads.specs.Said.{Said, refusal, says, refuses}
use Rattle.reads.specs.declared.Refusal.{Refusal}
use Rattle.tables.specs.Fits.{tested}
use Rattle.tables.specs.Values.{metrics_values, accelerator_values, record_values}
use Rattle.tables.specs.declared.Record.{Record}
use Rattle.bitmaps.specs.Draw.{rows_values}
use Rattle.lookup.specs.Served.{supplier_values}
use Rattle.place.specs.Info.{info_values}
use Rattle.why.specs.Why.{reason_values}
use Rattle.thalluskin.specs.declared.FontAnswer.{FontAnswer}
use Rattle.thalluskin.specs.declared.PropertyAnswer.{PropertyAnswer}
use Rattle.thalluskin.specs.declared.GlyphAnswer.{GlyphAnswer}
use Rattle.thalluskin.specs.declared.NameAnswer.{NameAnswer}
use Rattle.thalluskin.specs.declared.MetricsAnswer.{MetricsAnswer}
use Rattle.thalluskin.specs.declared.AccelAnswer.{AccelAnswer}
use Rattle.thalluskin.specs.declared.ExtentAnswer.{ExtentAnswer}
use Rattle.thalluskin.specs.declared.InfoAnswer.{InfoAnswer}
use Rattle.thalluskin.specs.declared.RowsAnswer.{RowsAnswer}
use Rattle.thalluskin.specs.declared.CharAnswer.{CharAnswer}
use Rattle.thalluskin.specs.declared.WhyAnswer.{WhyAnswer}
use Rattle.thalluskin.specs.declared.UnpackAnswer.{UnpackAnswer}
use Rattle.thalluskin.specs.declared.TextAnswer.{TextAnswer}
use Rattle.thalluskin.specs.declared.StepAnswer.{StepAnswer}

-- a refusal's number, a place, and the values that stand beside them
abbrev pub read_off : ℕ → ℕ → List ℤ → Said
read_off zero place values = says values
read_off (suc n) place values = refuses (refusal (suc n) place)

abbrev pub says_font : FontAnswer → Said
says_font a = read_off a.refusal a.place (record_values a.rec)

-- "a value that is a number or a string"
abbrev pub says_property : PropertyAnswer → Said
says_property a =
    read_off a.refusal a.place
    (pos a.name.start ∷ pos a.name.len
    ∷ cond a.is_string (pos 1 ∷ pos a.string.start ∷ pos a.string.len ∷ []) (pos 0 ∷ pos a.number ∷ []))

abbrev pub says_glyph : GlyphAnswer → Said
says_glyph a = read_off a.refusal a.place (pos a.glyph.0 ∷ supplier_values a.by)

abbrev pub says_name : NameAnswer → Said
says_name a = read_off a.refusal a.place (pos a.name.start ∷ pos a.name.len ∷ [])

abbrev pub says_metrics : MetricsAnswer → Said
says_metrics a = read_off a.refusal a.place (metrics_values a.metrics)

abbrev pub says_accel : AccelAnswer → Said
says_accel a = read_off a.refusal a.place (accelerator_values a.accel)

abbrev pub says_extent : ExtentAnswer → Said
says_extent a = read_off a.refusal a.place (pos a.extent.height ∷ pos a.extent.width ∷ [])

abbrev pub says_info : InfoAnswer → Said
says_info a = read_off a.refusal a.place (info_values a.info ++ supplier_values a.by)

abbrev pub says_rows : RowsAnswer → Said
says_rows a = read_off a.refusal a.place (rows_values a.rows)

abbrev pub says_char : CharAnswer → Said
says_char a = read_off a.refusal a.place (info_values a.info ++ rows_values a.rows ++ supplier_values a.by)

abbrev pub says_why : WhyAnswer → Said
says_why a = read_off a.refusal a.place (reason_values a.reason ++ supplier_values a.by)

abbrev pub says_unpack : UnpackAnswer → Said
says_unpack a = read_off a.refusal a.place (pos a.rows ∷ [])

abbrev pub says_text : TextAnswer → Said
says_text a = read_off a.refusal a.place (pos a.rows.height ∷ pos a.rows.dropped ∷ [])

-- 1, the character and the next place; or 0 for the end
abbrev pub says_step : StepAnswer → Said
says_step a =
    read_off a.refusal a.place (cond a.found (pos 1 ∷ pos a.code.0 ∷ pos a.next ∷ []) (pos 0 ∷ []))

-- 6 for a record that does not fit the bytes, else 15
abbrev pub unknown_mode : List ℕ → Record → Refusal
unknown_mode s rec = tested (λ r. r) s rec (refusal 15 0)

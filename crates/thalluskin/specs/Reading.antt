-- What the exported functions of loading and reading answer: the refusal's number, 0 for none, and the place; then the values. From document
-- 01: "A refusal returns its number, a place and no other value"; where there is none, a struct has 0.
use Rattle.std.specs.Prelude.{true, false}
use Rattle.load.specs.Gather.{no_metrics, blank}
use Rattle.load.specs.declared.Loaded.{Loaded}
use Rattle.lookup.specs.Served.{itself}
use Rattle.lookup.specs.declared.Served.{Served}
use Rattle.names.specs.declared.Span.{Span}
use Rattle.names.specs.declared.Named.{Named}
use Rattle.props.specs.declared.Property.{Property}
use Rattle.props.specs.declared.PropValue.{PropValue}
use Rattle.props.specs.declared.PropFound.{PropFound}
use Rattle.metrics.specs.declared.Measured.{Measured}
use Rattle.metrics.specs.declared.Accelerated.{Accelerated}
use Rattle.thalluskin.specs.declared.FontAnswer.{FontAnswer}
use Rattle.thalluskin.specs.declared.PropertyAnswer.{PropertyAnswer}
use Rattle.thalluskin.specs.declared.GlyphAnswer.{GlyphAnswer}
use Rattle.thalluskin.specs.declared.NameAnswer.{NameAnswer}
use Rattle.thalluskin.specs.declared.MetricsAnswer.{MetricsAnswer}
use Rattle.thalluskin.specs.declared.AccelAnswer.{AccelAnswer}

abbrev pub font_answer : Loaded → FontAnswer
font_answer (Loaded.Font rec) = record { refusal = 0; place = 0; rec = rec }
font_answer (Loaded.Refused r) = record { refusal = r.number; place = r.place; rec = blank }

abbrev pub no_span : Span
no_span = record { start = 0; len = 0 }

-- the answer of a property with this name and value
abbrev pub value_answer : Span → PropValue → PropertyAnswer
value_answer name (PropValue.Number n) =
    record { refusal = 0; place = 0; name = name; is_string = false; number = n; string = no_span }
value_answer name (PropValue.String p) =
    record { refusal = 0; place = 0; name = name; is_string = true; number = 0; string = p }

abbrev pub prop_answer : Property → PropertyAnswer
prop_answer p = value_answer p.name p.value

abbrev pub property_answer : PropFound → PropertyAnswer
property_answer (PropFound.Property p) = prop_answer p
property_answer (PropFound.Refused r) =
    record { refusal = r.number; place = r.place; name = no_span; is_string = false; number = 0; string = no_span }

abbrev pub glyph_answer : Served → GlyphAnswer
glyph_answer (Served.Glyph g by) = record { refusal = 0; place = 0; glyph = g; by = by }
glyph_answer (Served.Refused r) = record { refusal = r.number; place = r.place; glyph = record { 0 = 0 }; by = itself 0 }

abbrev pub name_answer : Named → NameAnswer
name_answer (Named.Name p) = record { refusal = 0; place = 0; name = p }
name_answer (Named.Refused r) = record { refusal = r.number; place = r.place; name = no_span }

abbrev pub metrics_answer : Measured → MetricsAnswer
metrics_answer (Measured.Metrics m) = record { refusal = 0; place = 0; metrics = m }
metrics_answer (Measured.Refused r) = record { refusal = r.number; place = r.place; metrics = no_metrics }

abbrev pub accel_answer : Accelerated → AccelAnswer
accel_answer (Accelerated.Accelerators a) = record { refusal = 0; place = 0; accel = a }
accel_answer (Accelerated.Refused r) = record { refusal = r.number; place = r.place; accel = blank.accel }

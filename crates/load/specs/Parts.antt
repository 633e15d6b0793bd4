-- One part of a record replaced, and one kind of table noted as there: the other five parts stay.
use Rattle.std.specs.Prelude.{true}
use Rattle.tables.specs.declared.PropertiesData.{PropertiesData}
use Rattle.tables.specs.declared.AcceleratorUnpacked.{AcceleratorUnpacked}
use Rattle.tables.specs.declared.MetricsData.{MetricsData}
use Rattle.tables.specs.declared.BitmapData.{BitmapData}
use Rattle.tables.specs.declared.EncodingData.{EncodingData}
use Rattle.tables.specs.declared.GlyphNameData.{GlyphNameData}
use Rattle.tables.specs.declared.Record.{Record}
use Rattle.load.specs.declared.Kinds.{Kinds}

abbrev pub set_props : PropertiesData → Record → Record
set_props t r = record { props = t; accel = r.accel; metrics = r.metrics; bitmaps = r.bitmaps; codes = r.codes; names = r.names }

abbrev pub set_accel : AcceleratorUnpacked → Record → Record
set_accel t r = record { props = r.props; accel = t; metrics = r.metrics; bitmaps = r.bitmaps; codes = r.codes; names = r.names }

abbrev pub set_metrics : MetricsData → Record → Record
set_metrics t r = record { props = r.props; accel = r.accel; metrics = t; bitmaps = r.bitmaps; codes = r.codes; names = r.names }

abbrev pub set_bitmaps : BitmapData → Record → Record
set_bitmaps t r = record { props = r.props; accel = r.accel; metrics = r.metrics; bitmaps = t; codes = r.codes; names = r.names }

abbrev pub set_codes : EncodingData → Record → Record
set_codes t r = record { props = r.props; accel = r.accel; metrics = r.metrics; bitmaps = r.bitmaps; codes = t; names = r.names }

abbrev pub set_names : GlyphNameData → Record → Record
set_names t r = record { props = r.props; accel = r.accel; metrics = r.metrics; bitmaps = r.bitmaps; codes = r.codes; names = t }

abbrev pub has_props : Kinds → Kinds
has_props k = record { props = true; accel = k.accel; metrics = k.metrics; bitmaps = k.bitmaps; codes = k.codes; names = k.names }

abbrev pub has_accel : Kinds → Kinds
has_accel k = record { props = k.props; accel = true; metrics = k.metrics; bitmaps = k.bitmaps; codes = k.codes; names = k.names }

abbrev pub has_metrics : Kinds → Kinds
has_metrics k = record { props = k.props; accel = k.accel; metrics = true; bitmaps = k.bitmaps; codes = k.codes; names = k.names }

abbrev pub has_bitmaps : Kinds → Kinds
has_bitmaps k = record { props = k.props; accel = k.accel; metrics = k.metrics; bitmaps = true; codes = k.codes; names = k.names }

abbrev pub has_codes : Kinds → Kinds
has_codes k = record { props = k.props; accel = k.accel; metrics = k.metrics; bitmaps = k.bitmaps; codes = true; names = k.names }

abbrev pub has_names : Kinds → Kinds
has_names k = record { props = k.props; accel = k.accel; metrics = k.metrics; bitmaps = k.bitmaps; codes = k.codes; names = true }

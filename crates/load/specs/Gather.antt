-- What the directory has given so far, and what a table adds to it. From document 01: "A repeated type is checked each time and
-- the last one serves; types 2 and 256 both give the accelerators. Six kinds must be present."
use Rattle.std.specs.Prelude.{Bool, false, cond, ◌&&◌, pos}
use Rattle.reads.specs.Said.{refusal}
use Rattle.tables.specs.declared.MetricsUnpacked.{MetricsUnpacked}
use Rattle.tables.specs.declared.TableRead.{TableRead}
use Rattle.tables.specs.declared.Record.{Record}
use Rattle.load.specs.declared.Kinds.{Kinds}
use Rattle.load.specs.declared.Gathered.{Gathered}
use Rattle.load.specs.declared.Entered.{Entered}
use Rattle.load.specs.declared.Loaded.{Loaded}
use Rattle.load.specs.Parts.{set_props, set_accel, set_metrics, set_bitmaps, set_codes, set_names}
use Rattle.load.specs.Parts.{has_props, has_accel, has_metrics, has_bitmaps, has_codes, has_names}

-- before the first entry: no kind, and numbers that nothing reads
abbrev pub no_metrics : MetricsUnpacked
no_metrics = record { left = pos 0; right = pos 0; width = pos 0; ascent = pos 0; descent = pos 0; attributes = 0 }

abbrev pub blank : Record
blank = record {
  props = record { big = false; count = 0; records = 0; strings = 0; size = 0 };
  accel = record {
    format = 0;
    noOverlap = 0;
    constantMetrics = 0;
    terminalFont = 0;
    constantWidth = 0;
    inkInside = 0;
    inkMetrics = 0;
    drawDirection = 0;
    padding = 0;
    fontAscent = pos 0;
    fontDescent = pos 0;
    maxOverlap = pos 0;
    minbounds = no_metrics;
    maxbounds = no_metrics;
  };
  metrics = record { big = false; compressed = false; count = 0; records = 0 };
  bitmaps = record { big = false; count = 0; offsets = 0; bits = 0; size = 0; pad = 0; unit = 0; top = false };
  codes = record { big = false; low2 = 0; high2 = 0; low1 = 0; high1 = 0; default = 0; entries = 0; size = 0 };
  names = record { big = false; count = 0; offsets = 0; strings = 0; size = 0 };
}

abbrev pub nothing : Gathered
nothing = record {
  tables = blank;
  kinds = record { props = false; accel = false; metrics = false; bitmaps = false; codes = false; names = false };
}

-- what the directory has given, with one more table
abbrev pub given : Record → Kinds → Entered
given tables kinds = Entered.Next (record { tables = tables; kinds = kinds })

-- "the last one serves": a table that was read takes the place of an earlier one of its kind; a table of another type changes nothing
abbrev pub added : Gathered → TableRead → Entered
added g (TableRead.Properties t) = given (set_props t g.tables) (has_props g.kinds)
added g (TableRead.Accelerators t) = given (set_accel t g.tables) (has_accel g.kinds)
added g (TableRead.Metrics t) = given (set_metrics t g.tables) (has_metrics g.kinds)
added g (TableRead.Bitmaps t) = given (set_bitmaps t g.tables) (has_bitmaps g.kinds)
added g (TableRead.Codes t) = given (set_codes t g.tables) (has_codes g.kinds)
added g (TableRead.Names t) = given (set_names t g.tables) (has_names g.kinds)
added g TableRead.Other = Entered.Next g
added g (TableRead.Refused n) = Entered.Refused n

-- "Six kinds must be present"
abbrev pub all_six : Kinds → Bool
all_six k = k.props && k.accel && k.metrics && k.bitmaps && k.codes && k.names

-- after the last entry: 8, "a table is missing", or the font
unfoldable pub finished : Gathered → Loaded
finished g = cond (all_six g.kinds) (Loaded.Font g.tables) (Loaded.Refused (refusal 8 0))

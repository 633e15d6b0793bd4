-- The record's numbers as a list, in the order of its fields: the values of an answer that holds a record or a part of one; and what
-- was read of a table.
use Rattle.std.specs.Prelude.{List, [], ◌∷◌, ◌++◌, ℤ, pos}
use Rattle.reads.specs.Said.{Said, refusal, says, refuses, bit}
use Rattle.tables.specs.declared.PropertiesData.{PropertiesData}
use Rattle.tables.specs.declared.MetricsUnpacked.{MetricsUnpacked}
use Rattle.tables.specs.declared.AcceleratorUnpacked.{AcceleratorUnpacked}
use Rattle.tables.specs.declared.MetricsData.{MetricsData}
use Rattle.tables.specs.declared.BitmapData.{BitmapData}
use Rattle.tables.specs.declared.EncodingData.{EncodingData}
use Rattle.tables.specs.declared.GlyphNameData.{GlyphNameData}
use Rattle.tables.specs.declared.Record.{Record}
use Rattle.tables.specs.declared.TableRead.{TableRead}

abbrev pub metrics_values : MetricsUnpacked → List ℤ
metrics_values m = m.left ∷ m.right ∷ m.width ∷ m.ascent ∷ m.descent ∷ pos m.attributes ∷ []

abbrev pub accelerator_values : AcceleratorUnpacked → List ℤ
accelerator_values a =
    (pos a.format ∷ pos a.noOverlap ∷ pos a.constantMetrics ∷ pos a.terminalFont ∷ pos a.constantWidth
    ∷ pos a.inkInside ∷ pos a.inkMetrics ∷ pos a.drawDirection ∷ pos a.padding
    ∷ a.fontAscent ∷ a.fontDescent ∷ a.maxOverlap ∷ [])
    ++ (metrics_values a.minbounds ++ metrics_values a.maxbounds)

abbrev pub props_values : PropertiesData → List ℤ
props_values p = bit p.big ∷ pos p.count ∷ pos p.records ∷ pos p.strings ∷ pos p.size ∷ []

abbrev pub metrics_data_values : MetricsData → List ℤ
metrics_data_values m = bit m.big ∷ bit m.compressed ∷ pos m.count ∷ pos m.records ∷ []

abbrev pub bitmaps_values : BitmapData → List ℤ
bitmaps_values b =
    bit b.big ∷ pos b.count ∷ pos b.offsets ∷ pos b.bits ∷ pos b.size ∷ pos b.pad ∷ pos b.unit ∷ bit b.top ∷ []

abbrev pub codes_values : EncodingData → List ℤ
codes_values c =
    bit c.big ∷ pos c.low2 ∷ pos c.high2 ∷ pos c.low1 ∷ pos c.high1 ∷ pos c.default ∷ pos c.entries ∷ pos c.size ∷ []

abbrev pub names_values : GlyphNameData → List ℤ
names_values n = bit n.big ∷ pos n.count ∷ pos n.offsets ∷ pos n.strings ∷ pos n.size ∷ []

abbrev pub record_values : Record → List ℤ
record_values r =
    props_values r.props
    ++ (accelerator_values r.accel
    ++ (metrics_data_values r.metrics ++ (bitmaps_values r.bitmaps ++ (codes_values r.codes ++ names_values r.names))))

-- what was read of a table: its type, 2 for either type of accelerators and 0 for one that is not read, and the table's numbers; the place
-- of a refusal is the entry's, which loading adds
abbrev pub said_table : TableRead → Said
said_table (TableRead.Properties p) = says (pos 1 ∷ props_values p)
said_table (TableRead.Accelerators a) = says (pos 2 ∷ accelerator_values a)
said_table (TableRead.Metrics m) = says (pos 4 ∷ metrics_data_values m)
said_table (TableRead.Bitmaps b) = says (pos 8 ∷ bitmaps_values b)
said_table (TableRead.Codes c) = says (pos 32 ∷ codes_values c)
said_table (TableRead.Names n) = says (pos 128 ∷ names_values n)
said_table TableRead.Other = says (pos 0 ∷ [])
said_table (TableRead.Refused n) = refuses (refusal n 0)

-- The metrics table, and one record of it. From document 01: "Metrics (4): directory format bit 256 set: u16 count at 4, 5-byte
-- records from 6, byte b means b - 128, attributes 0. Otherwise: u32 count at 4, 12-byte records from 8."
use Rattle.std.specs.Prelude.{ℕ, ◌+◌, ◌*◌, Bool, true, false, cond, List, ltb}
use Rattle.reads.specs.Num.{byte_at, u16_at, u32_at, i16_at, less128}
use Rattle.tables.specs.Format.{big_bit, compressed_bit}
use Rattle.tables.specs.declared.MetricsUnpacked.{MetricsUnpacked}
use Rattle.tables.specs.declared.MetricsData.{MetricsData}
use Rattle.tables.specs.declared.TableRead.{TableRead}

-- a record of 12 bytes
unfoldable pub wide_at : Bool → List ℕ → ℕ → MetricsUnpacked
wide_at big s at = record {
  left = i16_at big s at;
  right = i16_at big s (at + 2);
  width = i16_at big s (at + 4);
  ascent = i16_at big s (at + 6);
  descent = i16_at big s (at + 8);
  attributes = u16_at big s (at + 10);
}

-- a compressed record: "byte b means b - 128, attributes 0"
unfoldable pub narrow_at : List ℕ → ℕ → MetricsUnpacked
narrow_at s at = record {
  left = less128 (byte_at s at);
  right = less128 (byte_at s (at + 1));
  width = less128 (byte_at s (at + 2));
  ascent = less128 (byte_at s (at + 3));
  descent = less128 (byte_at s (at + 4));
  attributes = 0;
}

-- how many bytes a record takes
abbrev pub metric_bytes : Bool → ℕ
metric_bytes true = 5
metric_bytes false = 12

-- where the records begin, counted from the table's start; the count stands between the format word and them
abbrev pub metrics_from : Bool → ℕ
metrics_from true = 6
metrics_from false = 8

abbrev pub metric_count : Bool → Bool → List ℕ → ℕ → ℕ
metric_count true big s at = u16_at big s (at + 4)
metric_count false big s at = u32_at big s (at + 4)

-- the table that begins at `at`, as its numbers say; "metrics [...] use the directory's" format
unfoldable pub metrics_table : List ℕ → ℕ → ℕ → MetricsData
metrics_table s format at =
    let big = big_bit format in
    let compressed = compressed_bit format in
    record { big = big; compressed = compressed; count = metric_count compressed big s at; records = at + metrics_from compressed }

-- where its contents end
abbrev pub metrics_end : MetricsData → ℕ
metrics_end m = m.records + metric_bytes m.compressed * m.count

-- 6 where "a known table's contents run past its bytes", which end at `end`
unfoldable pub metrics_at : List ℕ → ℕ → ℕ → ℕ → TableRead
metrics_at s format at end =
    let m = metrics_table s format at in
    cond (ltb end (metrics_end m)) (TableRead.Refused 6) (TableRead.Metrics m)

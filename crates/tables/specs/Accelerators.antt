-- The accelerators. From document 01: "Accelerators: 48 bytes: format, eight flag bytes, three i32, minimum and maximum bounds of
-- 12 bytes each."
use Rattle.std.specs.Prelude.{ℕ, ◌+◌, cond, List, ltb}
use Rattle.reads.specs.Num.{byte_at, i32_at}
use Rattle.tables.specs.Format.{format_at, big_bit}
use Rattle.tables.specs.Metrics.{wide_at}
use Rattle.tables.specs.declared.AcceleratorUnpacked.{AcceleratorUnpacked}
use Rattle.tables.specs.declared.TableRead.{TableRead}

-- the table that begins at `at`, as its numbers say
unfoldable pub accelerators_table : List ℕ → ℕ → AcceleratorUnpacked
accelerators_table s at =
    let format = format_at s at in
    let big = big_bit format in
    record {
      format = format;
      noOverlap = byte_at s (at + 4);
      constantMetrics = byte_at s (at + 5);
      terminalFont = byte_at s (at + 6);
      constantWidth = byte_at s (at + 7);
      inkInside = byte_at s (at + 8);
      inkMetrics = byte_at s (at + 9);
      drawDirection = byte_at s (at + 10);
      padding = byte_at s (at + 11);
      fontAscent = i32_at big s (at + 12);
      fontDescent = i32_at big s (at + 16);
      maxOverlap = i32_at big s (at + 20);
      minbounds = wide_at big s (at + 24);
      maxbounds = wide_at big s (at + 36);
    }

-- where its contents end: "48 bytes"
abbrev pub accelerators_end : ℕ → ℕ
accelerators_end at = at + 48

-- 6 where "a known table's contents run past its bytes", which end at `end`
unfoldable pub accelerators_at : List ℕ → ℕ → ℕ → TableRead
accelerators_at s at end = cond (ltb end (accelerators_end at)) (TableRead.Refused 6) (TableRead.Accelerators (accelerators_table s at))

-- What reading a table gives, from the numbers that the code has read: 6 where its contents run past its bytes, which end at `end`, else the table.
use Prim.Native.Nat.{ℕ, ◌+◌, ◌*◌, ◌≤◌, ◌<◌}
use mathlib.Core.Path.{◌≡◌}
use mathlib.Core.Bool.{Bool}
use mathlib.Core.List.{List}
use lib.IntN.{ℤ}
use mir.Syntax.{w32}
use borrow.Author.Tests.{lt-ltb, le-ltb}
use Rattle.reads.specs.Num.{byte_at, u16_at, u32_at, i32_at}
use Rattle.tables.specs.Format.{format_at, big_bit, compressed_bit, top_bit, pad_code, pad_of, unit_code}
use Rattle.tables.specs.Properties.{padded4, properties_table, properties_at}
use Rattle.tables.specs.Accelerators.{accelerators_table, accelerators_at}
use Rattle.tables.specs.Metrics.{metric_bytes, metrics_from, metric_count, metrics_table, metrics_at, wide_at}
use Rattle.tables.specs.Bitmaps.{bitmaps_table, bitmaps_at}
use Rattle.tables.specs.Codes.{entry_count, codes_table, codes_at}
use Rattle.tables.specs.Names.{names_table, names_at}
use Rattle.tables.specs.declared.PropertiesData.{PropertiesData}
use Rattle.tables.specs.declared.AcceleratorUnpacked.{AcceleratorUnpacked}
use Rattle.tables.specs.declared.MetricsUnpacked.{MetricsUnpacked}
use Rattle.tables.specs.declared.MetricsData.{MetricsData}
use Rattle.tables.specs.declared.BitmapData.{BitmapData}
use Rattle.tables.specs.declared.EncodingData.{EncodingData}
use Rattle.tables.specs.declared.GlyphNameData.{GlyphNameData}
use Rattle.tables.specs.declared.TableRead.{TableRead}
use Rattle.tables.proofs.Measured.{stored, Small, kept}

-- ---- the metrics, whose format is the directory's

module _ (s : List ℕ) (format at end : ℕ) (big compressed : Bool) (count from per : ℕ) (big-is : big ≡ big_bit format)
    (compressed-is : compressed ≡ compressed_bit format) (count-is : count ≡ metric_count compressed big s at)
    (from_is : from ≡ metrics_from compressed) (per-is : per ≡ metric_bytes compressed) where
  abbrev metrics_read : MetricsData
  metrics_read = record { big = big; compressed = compressed; count = count; records = at + from }

  metrics_are : metrics_read ≡ metrics_table s format at
  unfolding metrics_table
  metrics_are = rw (← big-is, ← compressed-is, ← count-is, ← from_is)

  pub metrics_past : end < at + from + per * count → TableRead.Refused 6 ≡ metrics_at s format at end
  unfolding metrics_at
  metrics_past h = rw (← metrics_are, ← per-is, lt-ltb _ _ h)

  pub metrics_inside : at + from + per * count ≤ end → TableRead.Metrics metrics_read ≡ metrics_at s format at end
  unfolding metrics_at
  metrics_inside h = rw (← metrics_are, ← per-is, le-ltb _ _ h)

-- ---- the others, whose format stands at their beginning

module _ (s : List ℕ) (at end format : ℕ) (big : Bool) (format-is : format ≡ format_at s at) (big-is : big ≡ big_bit format) where
  module _ (count before size : ℕ) (count-is : count ≡ u32_at big s (at + 4)) (before-is : before ≡ padded4 (8 + 9 * count))
      (size_is : size ≡ u32_at big s (at + before)) where
    abbrev properties_read : PropertiesData
    properties_read = record { big = big; count = count; records = at + 8; strings = at + before + 4; size = size }

    properties_are : properties_read ≡ properties_table s at
    unfolding properties_table
    properties_are = rw (← format-is, ← big-is, ← count-is, ← before-is, ← size_is)

    pub properties_past : end < at + before + 4 + size → TableRead.Refused 6 ≡ properties_at s at end
    unfolding properties_at
    properties_past h = rw (← properties_are, lt-ltb _ _ h)

    pub properties_inside : at + before + 4 + size ≤ end → TableRead.Properties properties_read ≡ properties_at s at end
    unfolding properties_at
    properties_inside h = rw (← properties_are, le-ltb _ _ h)

  module _ (count size : ℕ) (count-is : count ≡ u32_at big s (at + 4)) (size_is : size ≡ u32_at big s (at + (8 + 4 * count))) where
    abbrev names_read : GlyphNameData
    names_read = record { big = big; count = count; offsets = at + 8; strings = at + (8 + 4 * count) + 4; size = size }

    names_are : names_read ≡ names_table s at
    unfolding names_table
    names_are = rw (← format-is, ← big-is, ← count-is, ← size_is)

    pub names_past : end < at + (8 + 4 * count) + 4 + size → TableRead.Refused 6 ≡ names_at s at end
    unfolding names_at
    names_past h = rw (← names_are, lt-ltb _ _ h)

    pub names_inside : at + (8 + 4 * count) + 4 + size ≤ end → TableRead.Names names_read ≡ names_at s at end
    unfolding names_at
    names_inside h = rw (← names_are, le-ltb _ _ h)

  module _ (count code size : ℕ) (count-is : count ≡ u32_at big s (at + 4)) (code_is : code ≡ pad_code format)
      (size_is : size ≡ u32_at big s (at + (8 + 4 * count) + 4 * code)) where
    abbrev bitmaps_read : ℕ → ℕ → Bool → BitmapData
    bitmaps_read pad unit top = record {
      big = big;
      count = count;
      offsets = at + 8;
      bits = at + (8 + 4 * count) + 16;
      size = size;
      pad = pad;
      unit = unit;
      top = top;
    }

    bitmaps_are : bitmaps_read (pad_of format) (unit_code format) (top_bit format) ≡ bitmaps_table s at
    unfolding bitmaps_table
    bitmaps_are = rw (← format-is, ← big-is, ← count-is, ← code_is, ← size_is)

    pub bitmaps_past : end < at + (8 + 4 * count) + 16 + size → TableRead.Refused 6 ≡ bitmaps_at s at end
    unfolding bitmaps_at
    bitmaps_past h = rw (← bitmaps_are, lt-ltb _ _ h)

    pub bitmaps_inside : (pad unit : ℕ) (top : Bool) → at + (8 + 4 * count) + 16 + size ≤ end → pad ≡ pad_of format → unit ≡ unit_code format
        → top ≡ top_bit format → TableRead.Bitmaps (bitmaps_read pad unit top) ≡ bitmaps_at s at end
    unfolding bitmaps_at
    bitmaps_inside pad unit top h pad-is unit-is top-is = rw (← bitmaps_are, le-ltb _ _ h, pad-is, unit-is, top-is)

  -- of the codes 6 for the header, 7, 6 for the rest
  module _ (low2 high2 low1 high1 : ℕ) (header : at + 14 ≤ end) (low2-is : low2 ≡ u16_at big s (at + 4)) (high2-is : high2 ≡ u16_at big s (at + 6))
      (low1-is : low1 ≡ u16_at big s (at + 8)) (high1-is : high1 ≡ u16_at big s (at + 10)) where
    abbrev codes_read : ℕ → ℕ → EncodingData
    codes_read default size =
        record { big = big; low2 = low2; high2 = high2; low1 = low1; high1 = high1; default = default; entries = at + 14; size = size }

    codes_are : codes_read (u16_at big s (at + 12)) (2 * entry_count low2 high2 low1 high1) ≡ codes_table s at
    unfolding codes_table
    codes_are = rw (← format-is, ← big-is, ← low2-is, ← high2-is, ← low1-is, ← high1-is)

    pub second_crossed : high2 < low2 → TableRead.Refused 7 ≡ codes_at s at end
    unfolding codes_at
    second_crossed h = rw (← codes_are, le-ltb _ _ header, lt-ltb _ _ h)

    module _ (second : low2 ≤ high2) where
      pub first_crossed : high1 < low1 → TableRead.Refused 7 ≡ codes_at s at end
      unfolding codes_at
      first_crossed h = rw (← codes_are, le-ltb _ _ header, le-ltb _ _ second, lt-ltb _ _ h)

      module _ (count : ℕ) (first : low1 ≤ high1) (count-is : count ≡ entry_count low2 high2 low1 high1) where
        pub entries_past : end < at + 14 + 2 * count → TableRead.Refused 6 ≡ codes_at s at end
        unfolding codes_at
        entries_past h = rw (← codes_are, le-ltb _ _ header, le-ltb _ _ second, le-ltb _ _ first, ← count-is, lt-ltb _ _ h)

        pub codes_inside : (default : ℕ) → at + 14 + 2 * count ≤ end → default ≡ u16_at big s (at + 12)
            → TableRead.Codes (codes_read default (2 * count)) ≡ codes_at s at end
        unfolding codes_at
        codes_inside default h default-is =
            rw (← codes_are, le-ltb _ _ header, le-ltb _ _ second, le-ltb _ _ first, ← count-is, le-ltb _ _ h, ← default-is)

  pub accelerators_are : (b₄ b₅ b₆ b₇ b₈ b₉ b₁₀ b₁₁ : ℕ) (f₁₂ m₁₂ f₁₆ m₁₆ f₂₀ m₂₀ : ℤ) (w₂₄ w₃₆ : MetricsUnpacked)
      → b₄ ≡ byte_at s (at + 4) → b₅ ≡ byte_at s (at + 5) → b₆ ≡ byte_at s (at + 6) → b₇ ≡ byte_at s (at + 7)
      → b₈ ≡ byte_at s (at + 8) → b₉ ≡ byte_at s (at + 9) → b₁₀ ≡ byte_at s (at + 10) → b₁₁ ≡ byte_at s (at + 11)
      → m₁₂ ≡ i32_at big s (at + 12) → Small w32 m₁₂ → f₁₂ ≡ stored w32 m₁₂
      → m₁₆ ≡ i32_at big s (at + 16) → Small w32 m₁₆ → f₁₆ ≡ stored w32 m₁₆
      → m₂₀ ≡ i32_at big s (at + 20) → Small w32 m₂₀ → f₂₀ ≡ stored w32 m₂₀
      → w₂₄ ≡ wide_at big s (at + 24) → w₃₆ ≡ wide_at big s (at + 36)
      → record {
        format = format;
        noOverlap = b₄;
        constantMetrics = b₅;
        terminalFont = b₆;
        constantWidth = b₇;
        inkInside = b₈;
        inkMetrics = b₉;
        drawDirection = b₁₀;
        padding = b₁₁;
        fontAscent = f₁₂;
        fontDescent = f₁₆;
        maxOverlap = f₂₀;
        minbounds = w₂₄;
        maxbounds = w₃₆;
      }
      ≡ accelerators_table s at
  unfolding accelerators_table
  accelerators_are b₄ b₅ b₆ b₇ b₈ b₉ b₁₀ b₁₁ f₁₂ m₁₂ f₁₆ m₁₆ f₂₀ m₂₀ w₂₄ w₃₆
      r₄ r₅ r₆ r₇ r₈ r₉ r₁₀ r₁₁ r₁₂ l₁₂ s₁₂ r₁₆ l₁₆ s₁₆ r₂₀ l₂₀ s₂₀ r₂₄ r₃₆ =
      rw (s₁₂, s₁₆, s₂₀, kept w32 m₁₂ _ r₁₂ l₁₂, kept w32 m₁₆ _ r₁₆ l₁₆, kept w32 m₂₀ _ r₂₀ l₂₀)
      (rw (r₄, r₅, r₆, r₇, r₈, r₉, r₁₀, r₁₁, r₂₄, r₃₆, big-is, format-is))

-- ---- what is told before the format is read

module _ (s : List ℕ) (at end : ℕ) where
  pub header_past : end < at + 14 → TableRead.Refused 6 ≡ codes_at s at end
  unfolding codes_at codes_table
  header_past h = rw (lt-ltb _ _ h)

  pub accelerators_past : end < at + 48 → TableRead.Refused 6 ≡ accelerators_at s at end
  unfolding accelerators_at
  accelerators_past h = rw (lt-ltb _ _ h)

  pub accelerators_inside : (a : AcceleratorUnpacked) → at + 48 ≤ end → a ≡ accelerators_table s at → TableRead.Accelerators a ≡ accelerators_at s at end
  unfolding accelerators_at
  accelerators_inside a h is = rw (le-ltb _ _ h, is)

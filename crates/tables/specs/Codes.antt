-- The code table. From document 01: "Codes (32): format; u16 low and high of the second byte, low and high of the first, default;
-- from 14 a u16 for each (high2 - low2 + 1)(high1 - low1 + 1)", and refusal 7, "code table with a minimum above its maximum".
use Rattle.std.specs.Prelude.{ℕ, ◌+◌, ◌-◌, ◌*◌, cond, ◌||◌, List, ltb}
use Rattle.reads.specs.Num.{u16_at}
use Rattle.tables.specs.Format.{format_at, big_bit}
use Rattle.tables.specs.declared.EncodingData.{EncodingData}
use Rattle.tables.specs.declared.TableRead.{TableRead}

-- how many entries bounds make: (high2 - low2 + 1)(high1 - low1 + 1)
abbrev pub entry_count : ℕ → ℕ → ℕ → ℕ → ℕ
entry_count low2 high2 low1 high1 = (high2 - low2 + 1) * (high1 - low1 + 1)

-- the table that begins at `at`, as its numbers say
unfoldable pub codes_table : List ℕ → ℕ → EncodingData
codes_table s at =
    let big = big_bit (format_at s at) in
    let low2 = u16_at big s (at + 4) in
    let high2 = u16_at big s (at + 6) in
    let low1 = u16_at big s (at + 8) in
    let high1 = u16_at big s (at + 10) in
    record {
      big = big;
      low2 = low2;
      high2 = high2;
      low1 = low1;
      high1 = high1;
      default = u16_at big s (at + 12);
      entries = at + 14;
      size = 2 * entry_count low2 high2 low1 high1;
    }

-- where its contents end
abbrev pub codes_end : EncodingData → ℕ
codes_end c = c.entries + c.size

-- of a table whose bytes run from `at` to `end`: "6 for its header, 7, 6 for the rest"
unfoldable pub codes_at : List ℕ → ℕ → ℕ → TableRead
codes_at s at end =
    let c = codes_table s at in
    cond (ltb end c.entries) (TableRead.Refused 6)
    (cond (ltb c.high2 c.low2 || ltb c.high1 c.low1) (TableRead.Refused 7)
    (cond (ltb end (codes_end c)) (TableRead.Refused 6)
    (TableRead.Codes c)))

-- The record's own test. From document 01, refusal 6 "in calls, a record with a region outside the
-- bytes given, a code minimum above its maximum, a code region without room for all its entries, or a row pad other than 1, 2, 4, 8".
use Rattle.std.specs.Prelude.{ℕ, ◌+◌, ◌*◌, Bool, cond, ◌&&◌, ◌||◌, List, [], length, leb, eqb}
use Rattle.reads.specs.Said.{Said, refusal, says, refuses}
use Rattle.reads.specs.declared.Refusal.{Refusal}
use Rattle.tables.specs.Codes.{entry_count}
use Rattle.tables.specs.Metrics.{metric_bytes}
use Rattle.tables.specs.declared.PropertiesData.{PropertiesData}
use Rattle.tables.specs.declared.MetricsData.{MetricsData}
use Rattle.tables.specs.declared.BitmapData.{BitmapData}
use Rattle.tables.specs.declared.EncodingData.{EncodingData}
use Rattle.tables.specs.declared.GlyphNameData.{GlyphNameData}
use Rattle.tables.specs.declared.Record.{Record}
use Rattle.tables.specs.declared.Permit.{Permit}

-- a region of `size` bytes from `start` on lies inside `len` bytes
abbrev pub inside : ℕ → ℕ → ℕ → Bool
inside len start size = leb (start + size) len

unfoldable pub props_fit : ℕ → PropertiesData → Bool
props_fit len p = inside len p.records (9 * p.count) && inside len p.strings p.size

unfoldable pub metrics_fit : ℕ → MetricsData → Bool
metrics_fit len m = inside len m.records (metric_bytes m.compressed * m.count)

-- "a row pad other than 1, 2, 4, 8"
abbrev pub pad_fits : ℕ → Bool
pad_fits pad = eqb pad 1 || eqb pad 2 || eqb pad 4 || eqb pad 8

unfoldable pub bitmaps_fit : ℕ → BitmapData → Bool
bitmaps_fit len b = inside len b.offsets (4 * b.count) && inside len b.bits b.size && pad_fits b.pad

-- no "code minimum above its maximum", nor "a code region without room for all its entries"
unfoldable pub codes_fit : ℕ → EncodingData → Bool
codes_fit len c =
    inside len c.entries c.size
    && leb c.low2 c.high2
    && leb c.low1 c.high1
    && leb (2 * entry_count c.low2 c.high2 c.low1 c.high1) c.size

unfoldable pub names_fit : ℕ → GlyphNameData → Bool
names_fit len n = inside len n.offsets (4 * n.count) && inside len n.strings n.size

-- the record's own test, against the length of the bytes given with it: where it fails, a call answers 6
unfoldable pub record_fits : ℕ → Record → Bool
record_fits len r =
    props_fit len r.props && metrics_fit len r.metrics && bitmaps_fit len r.bitmaps && codes_fit len r.codes && names_fit len r.names

-- what a call answers that takes a record with the bytes `s`: 6, or `answer`; `refused` makes a refusal an answer of the call
abbrev pub tested : {A : Type 0} → (Refusal → A) → List ℕ → Record → A → A
tested refused s rec answer = cond (record_fits (length s) rec) answer (refused (refusal 6 0))

-- the same of a call whose arguments have limits: 6, 15 "an argument other than the text outside its limits", or `answer`
abbrev pub guarded : {A : Type 0} → (Refusal → A) → List ℕ → Record → Bool → A → A
guarded refused s rec within answer = tested refused s rec (cond within answer (refused (refusal 15 0)))

-- what these two tests say before there is an answer, by what they found: 6, 15, or go on
unfoldable pub ladder : Bool → Bool → Permit
ladder fits within = cond fits (cond within Permit.Given (Permit.Refused (refusal 15 0))) (Permit.Refused (refusal 6 0))

-- to go on has no values
abbrev pub said_permit : Permit → Said
said_permit Permit.Given = says []
said_permit (Permit.Refused r) = refuses r

abbrev pub guard : List ℕ → Record → Bool → Permit
guard s rec within = ladder (record_fits (length s) rec) within

-- what a call answers after such tests
abbrev pub permitted : {A : Type 0} → (Refusal → A) → Permit → A → A
permitted refused Permit.Given answer = answer
permitted refused (Permit.Refused r) answer = refused r

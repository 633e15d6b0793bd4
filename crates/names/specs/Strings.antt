-- A string of a font: "the part of the font's own bytes up to its zero byte". From document 01, refusal 18 "string offset beyond
-- the string data, or no zero byte at or after it".
use Rattle.std.specs.Prelude.{ℕ, zero, suc, ◌+◌, ◌-◌, ◌≤◌, ◌<◌, min, ◌≡◌, cond, List, length, take, drop, ltb, eqb}
use Rattle.reads.specs.Num.{byte_at}
use Rattle.reads.specs.Said.{refusal}
use Rattle.tables.specs.Fits.{inside}
use Rattle.names.specs.declared.Span.{Span}
use Rattle.names.specs.declared.Named.{Named}
use Rattle.names.specs.declared.Zero.{Zero}

-- how many bytes from `at` on stand before the first zero byte, k of them passed and `left` more to look at
unfoldable pub zero_from : List ℕ → ℕ → ℕ → ℕ → Zero
zero_from s at zero k = Zero.Nothing
zero_from s at (suc left) k = let rest = zero_from s at left (k + 1) in cond (eqb (byte_at s (at + k)) 0) (Zero.After k) rest

abbrev pub span_to : ℕ → Zero → Named
span_to start (Zero.After len) = Named.Name (record { start = start; len = len })
span_to start Zero.Nothing = Named.Refused (refusal 18 0)

-- the string that starts `from` bytes into the string data, which is `size` bytes from `strings` on; 6 where that lies outside the bytes
unfoldable pub string_at : List ℕ → ℕ → ℕ → ℕ → Named
string_at s strings size from =
    cond (inside (length s) strings size)
    (cond (ltb size from) (Named.Refused (refusal 18 0)) (span_to (strings + from) (zero_from s (strings + from) (size - from) 0)))
    (Named.Refused (refusal 6 0))

-- a string that ends, in string data that lies in the bytes: a zero byte of that data stands "at or after" its offset
abbrev pub EndsIn : List ℕ → ℕ → ℕ → ℕ → Type 0
EndsIn s strings size from = (k : ℕ) × (from ≤ k) × (k < size) × (byte_at s (strings + k) ≡ 0)

-- the bytes of a span
abbrev pub part_of : List ℕ → Span → List ℕ
part_of s p = take p.len (drop p.start s)

-- where they stand among the bytes, counted from the first: at the end where the span starts past it
abbrev pub part_at : List ℕ → Span → ℕ
part_at s p = min p.start (length s)

-- the pointer of "the part of the font's own bytes" that begins n bytes further on: the same block, that offset
abbrev pub moved_by : ℕ × ℕ → ℕ → ℕ × ℕ
moved_by at n = (at.0, n + at.1)

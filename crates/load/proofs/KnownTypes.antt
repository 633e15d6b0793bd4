-- The known types are just those that loading reads, and a known table without its first four bytes is refused 6, before its format is asked.
use Prim.Native.Nat.{ℕ, ◌+◌, ◌<◌}
use mathlib.Core.Path.{◌≡◌, refl, subst}
use mathlib.Core.Bool.{Bool, true, false, ◌&&◌, ◌||◌}
use mathlib.Core.List.{List}
use mathlib.Core.Logic.{◌↔◌}
use native.Mathlib.Omega.{arith}
use lib.Dec.{ltb, eqb}
use borrow.Author.Tests.{lt-ltb, lt-leb}
use Rattle.reads.proofs.Tests.{never, split, either, or_neither}
use Rattle.tables.specs.Format.{compressed_bit}
use Rattle.tables.specs.Properties.{properties_table, properties_end, properties_at}
use Rattle.tables.specs.Accelerators.{accelerators_end, accelerators_at}
use Rattle.tables.specs.Metrics.{metrics_from, metrics_table, metrics_end, metrics_at}
use Rattle.tables.specs.Bitmaps.{bitmaps_table, bitmaps_end, bitmaps_at}
use Rattle.tables.specs.Codes.{codes_table, codes_end, codes_at}
use Rattle.tables.specs.Names.{names_table, names_end, names_at}
use Rattle.tables.specs.declared.TableRead.{TableRead}
use Rattle.load.specs.Load.{table_at, known_type, format_differs, table_in}

-- metrics begin behind the format word
past_word : (compressed : Bool) → 4 < metrics_from compressed
past_word true = omega arith
past_word false = omega arith

-- a table that was read, or refused
abbrev IsTable : TableRead → Type 0
IsTable (TableRead.Properties t) = Unit {0}
IsTable (TableRead.Accelerators t) = Unit {0}
IsTable (TableRead.Metrics t) = Unit {0}
IsTable (TableRead.Bitmaps t) = Unit {0}
IsTable (TableRead.Codes t) = Unit {0}
IsTable (TableRead.Names t) = Unit {0}
IsTable TableRead.Other = ⊥
IsTable (TableRead.Refused n) = Unit {0}

module _ (s : List ℕ) (kind format at end : ℕ) where
  -- what holds of each of the six readers holds of a known table
  by_kind : (P : TableRead → Type 0) → P (properties_at s at end) → P (accelerators_at s at end) → P (metrics_at s format at end)
      → P (bitmaps_at s at end) → P (codes_at s at end) → P (names_at s at end) → known_type kind ≡ true → P (table_at s kind format at end)
  unfolding table_at
  by_kind P p a m b c n known =
      split (eqb kind 1) (λ t. rw t p)
      (λ t₁. split (eqb kind 2 || eqb kind 256) (λ t. rw (t₁, t) a)
      (λ t₂. split (eqb kind 4) (λ t. rw (t₁, t₂, t) m)
      (λ t₄. split (eqb kind 8) (λ t. rw (t₁, t₂, t₄, t) b)
      (λ t₈. split (eqb kind 32) (λ t. rw (t₁, t₂, t₄, t₈, t) c)
      (λ t₃₂. split (eqb kind 128) (λ t. rw (t₁, t₂, t₄, t₈, t₃₂, t) n)
      (λ t₁₂₈. let (u, v) = or_neither (eqb kind 2) (eqb kind 256) t₂ in never (rw (t₁, u, t₄, t₈, t₃₂, t₁₂₈, v) at known)))))))

  known_table : known_type kind ≡ true → IsTable (table_at s kind format at end)
  unfolding properties_at accelerators_at metrics_at bitmaps_at codes_at names_at
  known_table =
      let c = codes_table s at in
      by_kind IsTable
      (either IsTable (ltb end (properties_end (properties_table s at))) tt tt)
      (either IsTable (ltb end (accelerators_end at)) tt tt)
      (either IsTable (ltb end (metrics_end (metrics_table s format at))) tt tt)
      (either IsTable (ltb end (bitmaps_end (bitmaps_table s at))) tt tt)
      (either IsTable (ltb end c.entries) tt
      (either IsTable (ltb c.high2 c.low2 || ltb c.high1 c.low1) tt (either IsTable (ltb end (codes_end c)) tt tt)))
      (either IsTable (ltb end (names_end (names_table s at))) tt tt)

  unknown_other : known_type kind ≡ false → table_at s kind format at end ≡ TableRead.Other
  unfolding table_at
  unknown_other e =
      let (upto-128, t₂₅₆) = or_neither (eqb kind 1 || eqb kind 2 || eqb kind 4 || eqb kind 8 || eqb kind 32 || eqb kind 128) (eqb kind 256) e in
      let (upto-32, t₁₂₈) = or_neither (eqb kind 1 || eqb kind 2 || eqb kind 4 || eqb kind 8 || eqb kind 32) (eqb kind 128) upto-128 in
      let (upto-8, t₃₂) = or_neither (eqb kind 1 || eqb kind 2 || eqb kind 4 || eqb kind 8) (eqb kind 32) upto-32 in
      let (upto-4, t₈) = or_neither (eqb kind 1 || eqb kind 2 || eqb kind 4) (eqb kind 8) upto-8 in
      let (upto-2, t₄) = or_neither (eqb kind 1 || eqb kind 2) (eqb kind 4) upto-4 in
      let (t₁, t₂) = or_neither (eqb kind 1) (eqb kind 2) upto-2 in
      rw (t₁, t₂, t₂₅₆, t₄, t₈, t₃₂, t₁₂₈) refl

  -- a table is passed over, and its format not compared, exactly if its type is not known
  pub other_unknown : (strict : Bool) → (table_in strict s kind format at end ≡ TableRead.Other) ↔ (known_type kind ≡ false)
  unfolding table_in format_differs
  other_unknown strict = (
    λ e. split (known_type kind) (λ t. absurd (subst IsTable e (either IsTable (strict && format_differs s kind format at end) tt (known_table t)))) (λ t. t),
    unread strict,
  ) where
    unread : (strict : Bool) → known_type kind ≡ false → table_in strict s kind format at end ≡ TableRead.Other
    unread true t = rw t (unknown_other t)
    unread false t = unknown_other t

  -- every table's contents have more than four bytes
  short_six : known_type kind ≡ true → end < at + 4 → table_at s kind format at end ≡ TableRead.Refused 6
  unfolding properties_table properties_at accelerators_at metrics_table metrics_at bitmaps_table bitmaps_at codes_table codes_at names_table names_at
  short_six known h =
      by_kind (λ read. read ≡ TableRead.Refused 6)
      (rw (lt-ltb end (properties_end (properties_table s at)) (omega arith)) refl)
      (rw (lt-ltb end (accelerators_end at) (omega arith)) refl)
      (rw (lt-ltb end (metrics_end (metrics_table s format at)) (omega (arith, past_word (compressed_bit format)))) refl)
      (rw (lt-ltb end (bitmaps_end (bitmaps_table s at)) (omega arith)) refl)
      (rw (lt-ltb end (codes_table s at).entries (omega arith)) refl)
      (rw (lt-ltb end (names_end (names_table s at)) (omega arith)) refl)
      known

  -- "after 6 for the table's first four bytes", strict or not
  pub six_first : (strict : Bool) → known_type kind ≡ true → end < at + 4 → table_in strict s kind format at end ≡ TableRead.Refused 6
  unfolding table_in format_differs
  six_first true known h = rw (known, lt-leb (at + 4) end h) (short_six known h)
  six_first false known h = short_six known h

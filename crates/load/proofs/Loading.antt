-- What loading answers, by the tests that the code makes: of the file, of an entry, of a table's type, and after the last entry.
use Prim.Native.Nat.{ℕ, ◌+◌, ◌*◌, ◌≤◌, ◌<◌, min}
use mathlib.Core.Path.{◌≡◌, ◌∙◌}
use mathlib.Core.Bool.{Bool, true, false, not, ◌&&◌}
use mathlib.Core.List.{List}
use native.Mathlib.Nat.{add-zero}
use lib.ListN.{length}
use lib.Dec.{leb, eqb}
use borrow.Author.Tests.{lt-ltb, le-ltb, eq-eqb, ne_eqb}
use Rattle.reads.specs.Num.{u32_at}
use Rattle.reads.specs.Said.{refusal}
use Rattle.tables.specs.declared.TableRead.{TableRead}
use Rattle.load.specs.Gather.{nothing, added, all_six, finished}
use Rattle.load.specs.Load.{table_at, known_type, format_differs, table_in, entry_of, entry_at, entries_from, loaded_in}
use Rattle.load.specs.declared.Gathered.{Gathered}
use Rattle.load.specs.declared.Entered.{Entered}
use Rattle.load.specs.declared.Loaded.{Loaded}

-- ---- the file

module _ (strict : Bool) (s : List ℕ) where
  pub too_short : length s < 8 → Loaded.Refused (refusal 1 0) ≡ loaded_in strict s
  unfolding loaded_in
  too_short h = rw (lt-ltb _ _ h)

  module _ (magic : ℕ) (long : 8 ≤ length s) (magic-is : magic ≡ u32_at true s (0 + 0)) where
    pub no_font : (magic ≡ 0x01666370 → ⊥) → Loaded.Refused (refusal 2 0) ≡ loaded_in strict s
    unfolding loaded_in
    no_font n = rw (le-ltb _ _ long, ← magic-is, ne_eqb _ _ n)

    module _ (count : ℕ) (font : magic ≡ 0x01666370) (count-is : count ≡ u32_at false s (0 + 4)) where
      pub too_many : 64 < count → Loaded.Refused (refusal 3 0) ≡ loaded_in strict s
      unfolding loaded_in
      too_many h = rw (le-ltb _ _ long, ← magic-is, eq-eqb _ _ font, ← count-is, lt-ltb _ _ h)

      module _ (few : count ≤ 64) where
        pub directory_past : length s < 8 + 16 * count → Loaded.Refused (refusal 4 0) ≡ loaded_in strict s
        unfolding loaded_in
        directory_past h = rw (le-ltb _ _ long, ← magic-is, eq-eqb _ _ font, ← count-is, le-ltb _ _ few, lt-ltb _ _ h)

        pub entries_read : (r : Loaded) → 8 + 16 * count ≤ length s → r ≡ entries_from strict s count 0 nothing → r ≡ loaded_in strict s
        unfolding loaded_in
        entries_read r h is = rw (le-ltb _ _ long, ← magic-is, eq-eqb _ _ font, ← count-is, le-ltb _ _ few, le-ltb _ _ h) is

-- ---- an entry

module _ (strict : Bool) (s : List ℕ) (g : Gathered) (kind format size offset : ℕ) where
  pub offset_past : length s < offset → Entered.Refused 5 ≡ entry_of strict s g kind format size offset
  unfolding entry_of
  offset_past h = rw (lt-ltb _ _ h)

  module _ (r : Entered) where
    pub table_added : (end : ℕ) (table : TableRead) → offset ≤ length s → end ≡ min (offset + size) (length s)
        → table ≡ table_in strict s kind format offset end → r ≡ added g table → r ≡ entry_of strict s g kind format size offset
    unfolding entry_of
    table_added end table h end_is table_is is = rw (le-ltb _ _ h, ← end_is, ← table_is) is

    pub entry_read : (k : ℕ) → kind ≡ u32_at false s (8 + 16 * k + 0) → format ≡ u32_at false s (8 + 16 * k + 4)
        → size ≡ u32_at false s (8 + 16 * k + 8) → offset ≡ u32_at false s (8 + 16 * k + 12)
        → r ≡ entry_of strict s g kind format size offset → r ≡ entry_at strict s k g
    unfolding entry_at
    entry_read k kind-is format-is size_is offset-is is = is ∙ rw (kind-is, format-is, size_is, offset-is, add-zero)

-- ---- a table in strict loading or not

module _ (s : List ℕ) (kind format at end : ℕ) (strict : Bool) where
  pub not_asked : strict ≡ false → false ≡ (strict && format_differs s kind format at end)
  not_asked tolerant = rw tolerant

  pub word_compared : (known : Bool) (own : ℕ) → strict ≡ true → own ≡ u32_at false s (at + 0) → known ≡ known_type kind
      → (known && leb (at + 4) end && not (eqb own format)) ≡ (strict && format_differs s kind format at end)
  unfolding format_differs
  word_compared known own asked own_is Known-is = rw (asked, Known-is, own_is, add-zero)

  module _ (refused : Bool) (refused-is : refused ≡ (strict && format_differs s kind format at end)) where
    pub format_refused : refused ≡ true → TableRead.Refused 27 ≡ table_in strict s kind format at end
    unfolding table_in
    format_refused e = rw (← refused-is, e)

    pub format_passed : (r : TableRead) → refused ≡ false → r ≡ table_at s kind format at end → r ≡ table_in strict s kind format at end
    unfolding table_in
    format_passed r e is = rw (← refused-is, e) is

-- ---- a table: its type is one of the numbers that are asked for, and then decides every test, or none of them

module _ (s : List ℕ) (kind format at end : ℕ) where
  pub of_kind : (n : ℕ) (r : TableRead) → kind ≡ n → r ≡ table_at s n format at end → r ≡ table_at s kind format at end
  of_kind n r e is = rw e is

  pub of_no_kind : (kind ≡ 1 → ⊥) → (kind ≡ 2 → ⊥) → (kind ≡ 256 → ⊥) → (kind ≡ 4 → ⊥) → (kind ≡ 8 → ⊥) → (kind ≡ 32 → ⊥) → (kind ≡ 128 → ⊥)
      → TableRead.Other ≡ table_at s kind format at end
  unfolding table_at
  of_no_kind n₁ n₂ n₂₅₆ n₄ n₈ n₃₂ n₁₂₈ =
      rw (ne_eqb _ _ n₁, ne_eqb _ _ n₂, ne_eqb _ _ n₂₅₆, ne_eqb _ _ n₄, ne_eqb _ _ n₈, ne_eqb _ _ n₃₂, ne_eqb _ _ n₁₂₈)

-- ---- what was read, as one of its cases, and what there is after the last entry

pub as_read : (g : Gathered) (read table : TableRead) (r : Entered) → read ≡ table → r ≡ added g table → r ≡ added g read
as_read g read table r e is = rw e is

module _ (g : Gathered) (all : Bool) (all-is : all ≡ all_six g.kinds) where
  pub all_there : all ≡ true → Loaded.Font g.tables ≡ finished g
  unfolding finished
  all_there e = rw (← all-is, e)

  pub one_missing : all ≡ false → Loaded.Refused (refusal 8 0) ≡ finished g
  unfolding finished
  one_missing e = rw (← all-is, e)

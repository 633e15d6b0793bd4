-- The numbers that loading refuses with: those of its tables, of its entries, and its own.
use Prim.Native.Nat.{ℕ, zero, suc, ◌+◌, ◌*◌}
use mathlib.Core.Path.{◌≡◌, refl, subst}
use mathlib.Core.Bool.{Bool, true, false, not, ◌||◌}
use mathlib.Core.List.{List, [], ◌∷◌}
use lib.ListN.{length}
use lib.Dec.{eqb, ltb}
use Rattle.reads.specs.Num.{u32_at}
use Rattle.reads.specs.Said.{elem, NumberedBy}
use Rattle.reads.proofs.Numbers.{has_values, has_number, whichever, all_in, elem_more, wider}
use Rattle.reads.proofs.Tests.{either}
use Rattle.tables.specs.Values.{said_table}
use Rattle.tables.specs.declared.TableRead.{TableRead}
use Rattle.tables.proofs.Refusals.{properties_at_refusals, accelerators_at_refusals, metrics_at_refusals}
use Rattle.tables.proofs.Refusals.{bitmaps_at_refusals, codes_at_refusals, names_at_refusals}
use Rattle.load.specs.Gather.{nothing, added, all_six, finished}
use Rattle.load.specs.Load.{table_at, format_differs, table_in, entry_of, entry_kind, entry_format, entry_offset, entry_end, entry_at, after_entry, entries_from}
use Rattle.load.specs.Load.{directory_count, loaded_in, loaded, loaded_strictly, of_loading, of_strict_loading, said_loaded}
use Rattle.load.specs.declared.Gathered.{Gathered}
use Rattle.load.specs.declared.Entered.{Entered}
use Rattle.load.specs.declared.Loaded.{Loaded}

abbrev of_tables : List ℕ
of_tables = 6 ∷ 7 ∷ []

table_numbered : (s : List ℕ) (kind format at end : ℕ) → NumberedBy of_tables (said_table (table_at s kind format at end))
unfolding table_at
table_numbered s kind format at end =
    whichever said_table (eqb kind 1) (wider refl (properties_at_refusals s at end))
    (whichever said_table (eqb kind 2 || eqb kind 256) (wider refl (accelerators_at_refusals s at end))
    (whichever said_table (eqb kind 4) (wider refl (metrics_at_refusals s at end format))
    (whichever said_table (eqb kind 8) (wider refl (bitmaps_at_refusals s at end))
    (whichever said_table (eqb kind 32) (codes_at_refusals s at end)
    (whichever said_table (eqb kind 128) (wider refl (names_at_refusals s at end)) has_values)))))

abbrev EntryBy : List ℕ → Entered → Type 0
EntryBy es (Entered.Next g) = Unit {0}
EntryBy es (Entered.Refused n) = elem n es ≡ true

added_numbered : (es : List ℕ) (g : Gathered) (t : TableRead) → NumberedBy es (said_table t) → EntryBy es (added g t)
added_numbered es g (TableRead.Properties p) h = tt
added_numbered es g (TableRead.Accelerators a) h = tt
added_numbered es g (TableRead.Metrics m) h = tt
added_numbered es g (TableRead.Bitmaps b) h = tt
added_numbered es g (TableRead.Codes c) h = tt
added_numbered es g (TableRead.Names n) h = tt
added_numbered es g TableRead.Other h = tt
added_numbered es g (TableRead.Refused n) h = h.is

-- loading, strict or not, where a table is refused with one of `es`, and so is an entry with 5
module _ (strict : Bool) (es : List ℕ) (s : List ℕ) (five : elem 5 es ≡ true)
    (tables : (kind format at end : ℕ) → NumberedBy es (said_table (table_in strict s kind format at end)))
  where
    entry_numbered : (k : ℕ) (g : Gathered) → EntryBy es (entry_at strict s k g)
    unfolding entry_at entry_of
    entry_numbered k g =
        let at = entry_offset s k in
        let end = entry_end s k in
        let table = table_in strict s (entry_kind s k) (entry_format s k) at end in
        either (EntryBy es) (ltb (length s) at) five (added_numbered es g table (tables (entry_kind s k) (entry_format s k) at end))

    -- the whole, with those of loading besides
    module _ (ns : List ℕ) (more : all_in es ns ≡ true) (besides : all_in of_loading ns ≡ true) where
      also_in : (n : ℕ) → elem n of_loading ≡ true → elem n ns ≡ true
      also_in n = elem_more n of_loading ns besides

      after_entry_lem : (e : Entered) (k : ℕ) (rest : Gathered → Loaded) → EntryBy es e
          → ((g : Gathered) → NumberedBy ns (said_loaded (rest g))) → NumberedBy ns (said_loaded (after_entry e k rest))
      after_entry_lem (Entered.Next g) k rest h r = r g
      after_entry_lem (Entered.Refused n) k rest h r = has_number (elem_more n es ns more h)

      entries_numbered : (n k : ℕ) (g : Gathered) → NumberedBy ns (said_loaded (entries_from strict s n k g))
      unfolding entries_from finished
      entries_numbered zero k g = whichever said_loaded (all_six g.kinds) has_values (has_number (also_in 8 refl))
      entries_numbered (suc n) k g =
          after_entry_lem (entry_at strict s k g) k (λ h. entries_from strict s n (k + 1) h) (entry_numbered k g) (λ h. entries_numbered n (k + 1) h)

      load_numbered : NumberedBy ns (said_loaded (loaded_in strict s))
      unfolding loaded_in
      load_numbered =
          let count = directory_count s in
          whichever said_loaded (ltb (length s) 8) (has_number (also_in 1 refl))
          (whichever said_loaded (not (eqb (u32_at true s 0) 0x01666370)) (has_number (also_in 2 refl))
          (whichever said_loaded (ltb 64 count) (has_number (also_in 3 refl))
          (whichever said_loaded (ltb (length s) (8 + 16 * count)) (has_number (also_in 4 refl)) (entries_numbered count 0 nothing))))

-- the numbers of an entry
abbrev pub of_entries : List ℕ
of_entries = 5 ∷ of_tables

tolerant_tables : (s : List ℕ) (kind format at end : ℕ) → NumberedBy of_entries (said_table (table_in false s kind format at end))
unfolding table_in
tolerant_tables s kind format at end = wider refl (table_numbered s kind format at end)

strict_tables : (s : List ℕ) (kind format at end : ℕ) → NumberedBy (27 ∷ of_entries) (said_table (table_in true s kind format at end))
unfolding table_in
strict_tables s kind format at end =
    whichever said_table (format_differs s kind format at end) (has_number refl) (wider refl (table_numbered s kind format at end))

-- in tolerant loading an entry is refused with one of 5, 6, 7
pub entry_numbers : (s : List ℕ) (k : ℕ) (g : Gathered) (n : ℕ) → entry_at false s k g ≡ Entered.Refused n → elem n of_entries ≡ true
entry_numbers s k g n e = subst (EntryBy of_entries) e (entry_numbered false of_entries s refl (tolerant_tables s) k g)

pub load_pcf_refusals : (s : List ℕ) → NumberedBy of_loading (said_loaded (loaded s))
load_pcf_refusals s = load_numbered false of_entries s refl (tolerant_tables s) of_loading refl refl

pub load_strict_refusals : (s : List ℕ) → NumberedBy of_strict_loading (said_loaded (loaded_strictly s))
load_strict_refusals s = load_numbered true (27 ∷ of_entries) s refl (strict_tables s) of_strict_loading refl refl

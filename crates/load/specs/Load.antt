-- Loading a file of bytes: the directory, its entries in order, refusals 1 to 8 and, in strict loading, 27. From document 01: "Directory
-- numbers and every format word are little-endian. An entry is type, format, size, offset"; "Order in loading: 1 to 4, then entries in order
-- (5; within a table 6 for its header, 7, 6 for the rest), then 8"; the place is "for 5, 6 and 7 in loading, the entry's number from 0". From
-- document 02: "Strict loading refuses a known table whose own format word differs from its directory entry's. The tolerant load remains
-- beside the Rust [...] 27, placed like 6, after 6 for the table's first four bytes and before every other test of that table."
use Rattle.std.specs.Prelude.{ℕ, zero, suc, ◌+◌, ◌*◌, min, Bool, true, false, not, cond, ◌&&◌, ◌||◌, List, [], ◌∷◌, length, leb, ltb, eqb}
use Rattle.reads.specs.Num.{u32_at}
use Rattle.reads.specs.Said.{Said, refusal, says, refuses}
use Rattle.tables.specs.Format.{format_at}
use Rattle.tables.specs.Properties.{properties_at}
use Rattle.tables.specs.Accelerators.{accelerators_at}
use Rattle.tables.specs.Metrics.{metrics_at}
use Rattle.tables.specs.Bitmaps.{bitmaps_at}
use Rattle.tables.specs.Codes.{codes_at}
use Rattle.tables.specs.Names.{names_at}
use Rattle.tables.specs.Values.{record_values}
use Rattle.tables.specs.declared.TableRead.{TableRead}
use Rattle.load.specs.Gather.{nothing, added, finished}
use Rattle.load.specs.declared.Gathered.{Gathered}
use Rattle.load.specs.declared.Entered.{Entered}
use Rattle.load.specs.declared.Loaded.{Loaded}

-- a table of this type, with the directory's format, whose bytes run from `at` to `end`
unfoldable pub table_at : List ℕ → ℕ → ℕ → ℕ → ℕ → TableRead
table_at s kind format at end =
    cond (eqb kind 1) (properties_at s at end)
    (cond (eqb kind 2 || eqb kind 256) (accelerators_at s at end)
    (cond (eqb kind 4) (metrics_at s format at end)
    (cond (eqb kind 8) (bitmaps_at s at end)
    (cond (eqb kind 32) (codes_at s at end)
    (cond (eqb kind 128) (names_at s at end)
    TableRead.Other)))))

-- "a known table": one of a type that is read
abbrev pub known_type : ℕ → Bool
known_type kind = eqb kind 1 || eqb kind 2 || eqb kind 4 || eqb kind 8 || eqb kind 32 || eqb kind 128 || eqb kind 256

-- "a known table whose own format word differs from its directory entry's", where that word is there: "after 6 for the table's first four
-- bytes"
unfoldable pub format_differs : List ℕ → ℕ → ℕ → ℕ → ℕ → Bool
format_differs s kind format at end = known_type kind && leb (at + 4) end && not (eqb (format_at s at) format)

-- such a table in strict loading or not: 27 "before every other test of that table"
unfoldable pub table_in : Bool → List ℕ → ℕ → ℕ → ℕ → ℕ → TableRead
table_in strict s kind format at end =
    cond (strict && format_differs s kind format at end) (TableRead.Refused 27)
    (table_at s kind format at end)

-- an entry: 5, "an entry's offset exceeds the file length (unknown types too)"; else "the table's bytes run from offset for size
-- bytes, cut at the file's end"
unfoldable pub entry_of : Bool → List ℕ → Gathered → ℕ → ℕ → ℕ → ℕ → Entered
entry_of strict s g kind format size offset =
    cond (ltb (length s) offset) (Entered.Refused 5)
    (added g (table_in strict s kind format offset (min (offset + size) (length s))))

-- entry number k: "type, format, size, offset"
abbrev pub entry_kind : List ℕ → ℕ → ℕ
entry_kind s k = u32_at false s (8 + 16 * k)

abbrev pub entry_format : List ℕ → ℕ → ℕ
entry_format s k = u32_at false s (8 + 16 * k + 4)

abbrev pub entry_size : List ℕ → ℕ → ℕ
entry_size s k = u32_at false s (8 + 16 * k + 8)

abbrev pub entry_offset : List ℕ → ℕ → ℕ
entry_offset s k = u32_at false s (8 + 16 * k + 12)

-- where its table's bytes end
abbrev pub entry_end : List ℕ → ℕ → ℕ
entry_end s k = min (entry_offset s k + entry_size s k) (length s)

-- what entry number k makes of what those before it gave
unfoldable pub entry_at : Bool → List ℕ → ℕ → Gathered → Entered
entry_at strict s k g = entry_of strict s g (entry_kind s k) (entry_format s k) (entry_size s k) (entry_offset s k)

abbrev pub after_entry : Entered → ℕ → (Gathered → Loaded) → Loaded
after_entry (Entered.Next g) k rest = rest g
after_entry (Entered.Refused n) k rest = Loaded.Refused (refusal n k)

-- the n entries from number k on, in order, with what those before them gave
unfoldable pub entries_from : Bool → List ℕ → ℕ → ℕ → Gathered → Loaded
entries_from strict s zero k g = finished g
entries_from strict s (suc n) k g = after_entry (entry_at strict s k g) k (λ h. entries_from strict s n (k + 1) h)

-- how many entries the directory has
abbrev pub directory_count : List ℕ → ℕ
directory_count s = u32_at false s 4

-- 1 "file under 8 bytes", 2 "first four bytes not 01 66 63 70", 3 "over 64 directory entries", 4 "directory runs past the file"
unfoldable pub loaded_in : Bool → List ℕ → Loaded
loaded_in strict s =
    let count = directory_count s in
    cond (ltb (length s) 8) (Loaded.Refused (refusal 1 0))
    (cond (not (eqb (u32_at true s 0) 0x01666370)) (Loaded.Refused (refusal 2 0))
    (cond (ltb 64 count) (Loaded.Refused (refusal 3 0))
    (cond (ltb (length s) (8 + 16 * count)) (Loaded.Refused (refusal 4 0))
    (entries_from strict s count 0 nothing))))

-- "The tolerant load remains beside the Rust"
abbrev pub loaded : List ℕ → Loaded
loaded s = loaded_in false s

-- "Strict loading"
abbrev pub loaded_strictly : List ℕ → Loaded
loaded_strictly s = loaded_in true s

-- the numbers of a refusal
abbrev pub of_loading : List ℕ
of_loading = 1 ∷ 2 ∷ 3 ∷ 4 ∷ 5 ∷ 6 ∷ 7 ∷ 8 ∷ []

abbrev pub of_strict_loading : List ℕ
of_strict_loading = 1 ∷ 2 ∷ 3 ∷ 4 ∷ 5 ∷ 6 ∷ 27 ∷ 7 ∷ 8 ∷ []

abbrev pub said_loaded : Loaded → Said
said_loaded (Loaded.Font r) = says (record_values r)
said_loaded (Loaded.Refused r) = refuses r

-- Which tables' formats differ, in plain logic. From document 02: "Strict loading refuses a known table whose own format word differs from its
-- directory entry's [...] 27, placed like 6, after 6 for the table's first four bytes and before every other test of that table."
use Rattle.std.specs.Prelude.{ℕ, ◌+◌, ◌≤◌, ◌<◌, ◌≡◌, true, List, ◌⊎◌, length}
use Rattle.tables.specs.Format.{format_at}
use Rattle.load.specs.Load.{known_type, entry_kind, entry_format, entry_size, entry_offset, directory_count}
use Rattle.load.specs.declared.Loaded.{Loaded}

-- entry number k is of "a known table whose own format word", which is there, "differs from its directory entry's"
pub record Differs (s : List ℕ) (k : ℕ) : Type 0 where
  pub listed : k < directory_count s
  pub known : known_type (entry_kind s k) ≡ true
  pub sized : 4 ≤ entry_size s k
  pub in_file : entry_offset s k + 4 ≤ length s
  pub other : format_at s (entry_offset s k) ≡ entry_format s k → ⊥

-- no known table's format differs
abbrev pub FormatsAgree : List ℕ → Type 0
FormatsAgree s = (k : ℕ) → Differs s k → ⊥

-- entry number k is the first whose format differs
pub record FirstDiffers (s : List ℕ) (k : ℕ) : Type 0 where
  pub differs : Differs s k
  pub before : (j : ℕ) → j < k → Differs s j → ⊥

-- what loading answers, if it comes to entry number k: not 1 to 4, and not 5, 6 or 7 of an entry before; 8 is "then", after all entries
abbrev pub ComesTo : ℕ → Loaded → Type 0
ComesTo k (Loaded.Font rec) = Unit {0}
ComesTo k (Loaded.Refused r) = (r.number ≡ 8) ⊎ ((4 < r.number) × (r.number < 8) × (k ≤ r.place))

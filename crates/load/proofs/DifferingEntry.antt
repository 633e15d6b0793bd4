-- An entry of the directory in strict loading: the test of its format, as plain logic says it, and what comes of it.
use Prim.Native.Nat.{ℕ, ◌+◌, ◌≤◌, ◌<◌}
use mathlib.Core.Path.{◌≡◌, refl}
use mathlib.Core.Bool.{Bool, true, false, not, ◌&&◌}
use mathlib.Core.List.{List}
use native.Mathlib.Omega.{arith}
use lib.ListN.{length}
use lib.Dec.{leb, eqb}
use borrow.Author.Tests.{le-leb, leb-true, le-ltb, eqb-false, ne_eqb}
use Rattle.reads.proofs.Tests.{never, split, both}
use Rattle.tables.specs.Format.{format_at}
use Rattle.load.specs.Load.{known_type, format_differs, table_in, entry_of, entry_kind, entry_format, entry_offset, entry_end, entry_at, directory_count}
use Rattle.load.specs.Formats.{Differs}
use Rattle.load.specs.declared.Gathered.{Gathered}
use Rattle.load.specs.declared.Entered.{Entered}

module _ (s : List ℕ) where
  -- what strict loading asks of entry number k
  abbrev pub differs : ℕ → Bool
  differs k = format_differs s (entry_kind s k) (entry_format s k) (entry_offset s k) (entry_end s k)

  -- its tests: the type, the word's place, the word
  tests : (k : ℕ) → differs k ≡ true
      → (known_type (entry_kind s k) ≡ true) × (entry_offset s k + 4 ≤ entry_end s k)
      × (format_at s (entry_offset s k) ≡ entry_format s k → ⊥)
  unfolding format_differs
  tests k e =
      let at = entry_offset s k in
      let end = entry_end s k in
      let word = eqb (format_at s at) (entry_format s k) in
      let (held, other) = both (known_type (entry_kind s k) && leb (at + 4) end) (not word) e in
      let (known, there) = both (known_type (entry_kind s k)) (leb (at + 4) end) held in
      (known, leb-true (at + 4) end there, eqb-false (format_at s at) (entry_format s k) (split word (λ t. never (rw t at other)) (λ t. t)))

  -- which is what plain logic says, both ways
  pub differs_is : (k : ℕ) → k < directory_count s → differs k ≡ true → Differs s k
  differs_is k h e =
      let (known, inside, other) = tests k e in
      record { listed = h; known = known; sized = omega (arith, inside); in_file = omega (arith, inside); other = other }

  pub is_differs : (k : ℕ) → Differs s k → differs k ≡ true
  unfolding format_differs
  is_differs k d =
      let at = entry_offset s k in
      let end = entry_end s k in
      rw (d.known, le-leb (at + 4) end (omega (arith, d.sized, d.in_file)), ne_eqb (format_at s at) (entry_format s k) d.other) refl

  -- where it passes, the entry is as in tolerant loading
  pub entry_alike : (k : ℕ) (g : Gathered) → differs k ≡ false → entry_at true s k g ≡ entry_at false s k g
  unfolding entry_at entry_of table_in
  entry_alike k g e = rw e refl

  pub entry_27 : (k : ℕ) (g : Gathered) → differs k ≡ true → entry_at true s k g ≡ Entered.Refused 27
  unfolding entry_at entry_of table_in
  entry_27 k g t = let (known, inside, other) = tests k t in rw (le-ltb (length s) (entry_offset s k) (omega (arith, inside)), t) refl

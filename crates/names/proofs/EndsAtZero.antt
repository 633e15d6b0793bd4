-- What a found string is, in plain logic: bytes of the string data that are not zero, and a zero byte after them; and where none is
-- found though it starts in the string data, no byte from there on is zero.
use mathlib.Core.Path.{◌≡◌, refl, sym, subst, ◌∙◌}
use mathlib.Core.Bool.{true}
use mathlib.Core.List.{List}
use Prim.Native.Nat.{ℕ, zero, suc, ◌+◌, ◌-◌, ◌≤◌, ◌<◌}
use native.Mathlib.Nat.{zero-add}
use native.Mathlib.Omega.{arith}
use lib.ListN.{length}
use lib.Dec.{eqb, ltb}
use borrow.Author.Tests.{eqb-true, eqb-false, ltb-true, ltb-false}
use Rattle.reads.specs.Num.{byte_at}
use Rattle.reads.proofs.Tests.{never, split}
use Rattle.tables.specs.Fits.{inside}
use Rattle.names.specs.Strings.{zero_from, span_to, string_at, EndsIn}
use Rattle.names.specs.declared.Named.{Named}
use Rattle.names.specs.declared.Span.{Span}
use Rattle.names.specs.declared.Zero.{Zero}

-- from `at` on, the bytes numbered `low` to `high - 1` are not zero
abbrev NoZero : List ℕ → ℕ → ℕ → ℕ → Type 0
NoZero s at low high = (j : ℕ) → low ≤ j → j < high → byte_at s (at + j) ≡ 0 → ⊥

-- what a search from byte number k up to `end` found
abbrev Searched : List ℕ → ℕ → ℕ → ℕ → Zero → Type 0
Searched s at k end (Zero.After len) = (k ≤ len) × (len < end) × (byte_at s (at + len) ≡ 0) × NoZero s at k len
Searched s at k end Zero.Nothing = NoZero s at k end

one_more : (s : List ℕ) (at k high : ℕ) → (byte_at s (at + k) ≡ 0 → ⊥) → NoZero s at (k + 1) high → NoZero s at k high
one_more s at k high h f j l m =
    split (eqb j k) (λ t. let e : j ≡ k = eqb-true j k t in rw e h) (λ t. f j (omega (arith, eqb-false j k t)) m)

earlier : (s : List ℕ) (at k end : ℕ) (z : Zero) → (byte_at s (at + k) ≡ 0 → ⊥) → Searched s at (k + 1) end z → Searched s at k end z
earlier s at k end (Zero.After len) h (l, m, e, f) = (omega arith, m, e, one_more s at k len h f)
earlier s at k end Zero.Nothing h f = one_more s at k end h f

searched : (s : List ℕ) (at left k : ℕ) → Searched s at k (k + left) (zero_from s at left k)
unfolding zero_from
searched s at zero k = λ j l m e. omega arith
searched s at (suc left) k =
    split (eqb (byte_at s (at + k)) 0)
    (λ t. rw t (omega arith, omega arith, eqb-true (byte_at s (at + k)) 0 t, λ j l m e. omega arith))
    (λ t. rw t
    (let e : k + 1 + left ≡ k + suc left = omega arith in
    let z = zero_from s at left (k + 1) in
    earlier s at k (k + suc left) z (eqb-false (byte_at s (at + k)) 0 t)
    (subst (λ end. Searched s at (k + 1) end z) e (searched s at left (k + 1)))))

-- a string that starts `from` bytes into the string data
abbrev pub Ends : List ℕ → ℕ → ℕ → ℕ → Named → Type 0
Ends s strings size from (Named.Name p) =
    (p.start ≡ strings + from) × (p.start + p.len < strings + size) × (byte_at s (p.start + p.len) ≡ 0) × NoZero s p.start 0 p.len
Ends s strings size from (Named.Refused r) = (from ≤ size) → inside (length s) strings size ≡ true → NoZero s (strings + from) 0 (size - from)

span_ends : (s : List ℕ) (strings size from : ℕ) (z : Zero) → from ≤ size → Searched s (strings + from) 0 (size - from) z → Ends s strings size from (span_to (strings + from) z)
span_ends s strings size from (Zero.After len) h (l, m, e, f) = (refl, omega arith, e, f)
span_ends s strings size from Zero.Nothing h f = λ g i. f

-- "the part of the font's own bytes up to its zero byte"
pub string_ends : (s : List ℕ) (strings size from : ℕ) → Ends s strings size from (string_at s strings size from)
unfolding string_at
string_ends s strings size from =
    split (inside (length s) strings size)
    (λ t. split (ltb size from)
    (λ u. rw (t, u) (λ g i. absurd (omega (arith, ltb-true size from u))))
    (λ u. rw (t, u)
    (span_ends s strings size from (zero_from s (strings + from) (size - from) 0) (ltb-false size from u)
    (simp (zero-add) at (searched s (strings + from) (size - from) 0)))))
    (λ t. rw t (λ g i. never (sym t ∙ i)))

-- a string is found exactly if it ends, in string data that lies in the bytes
module _ (s : List ℕ) (strings size from : ℕ) where
  pub found_ends : (p : Span) → string_at s strings size from ≡ Named.Name p → EndsIn s strings size from
  found_ends p e =
      let (start, below, zero-byte, none) = subst (Ends s strings size from) e (string_ends s strings size from) in
      let there : p.start + p.len ≡ strings + (from + p.len) = omega arith in
      (from + p.len, omega arith, omega arith, rw there at zero-byte)

  pub ends_found : inside (length s) strings size ≡ true → EndsIn s strings size from → (p : Span) × (string_at s strings size from ≡ Named.Name p)
  ends_found i (k, l, h, e) = by (string_at s strings size from) refl where
    by : (x : Named) → string_at s strings size from ≡ x → (p : Span) × (string_at s strings size from ≡ Named.Name p)
    by (Named.Name p) f = (p, f)
    by (Named.Refused r) f =
        let none = subst (Ends s strings size from) f (string_ends s strings size from) (omega arith) i in
        let there : strings + from + (k - from) ≡ strings + k = omega arith in
        absurd (none (k - from) (omega arith) (omega arith) (rw there e))

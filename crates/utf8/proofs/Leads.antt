-- The table by tests that compute: the line of every first byte in a range, and what every line has.
use Prim.Native.Nat.{ℕ, zero, suc, ◌<◌, ◌≤◌}
use mathlib.Core.Path.{◌≡◌, refl, sym, subst, ◌∙◌}
use mathlib.Core.Bool.{Bool, true, false, not, ◌&&◌, ◌||◌}
use mathlib.Core.Logic.{⊎_elim}
use mathlib.Core.List.{List, [], ◌∷◌}
use native.Mathlib.Omega.{arith}
use native.Mathlib.Nat.{eq-or-lt_of_le, le_of_suc-le-suc, not-suc-le-zero}
use lib.Dec.{T, eqb, leb, ltb, eqb→eq, leb→le}
use borrow.Author.Tests.{le-leb, lt-leb, lt-ltb}
use Rattle.reads.specs.Range.{between}
use Rattle.reads.proofs.Tests.{never, either}
use Rattle.utf8.specs.Table.{Line, find, table, lead_of}
use Rattle.utf8.specs.declared.Lead.{Lead}

first : (a b : Bool) → T (a && b) → T a
first true b t = tt
first false b t = t

second : (a b : Bool) → T (a && b) → T b
second true b t = t
second false b t = absurd t

-- every number below n passes
unfoldable every : ℕ → (ℕ → Bool) → Bool
every zero f = true
every (suc n) f = f n && every n f

every_at : (n : ℕ) (f : ℕ → Bool) → T (every n f) → (k : ℕ) → k < n → T (f k)
unfolding every
every_at zero f t k h = absurd (not-suc-le-zero h)
every_at (suc n) f t k h =
    ⊎_elim (λ e. subst (λ (m : ℕ). T (f m)) (sym e) (first (f n) (every n f) t)) (λ l. every_at n f (second (f n) (every n f) t) k l)
    (eq-or-lt_of_le (le_of_suc-le-suc h))

unfoldable same : Lead → Lead → Bool
same a b = eqb a.size b.size && (eqb a.low b.low && eqb a.high b.high)

same_eq : (a b : Lead) → T (same a b) → a ≡ b
unfolding same
same_eq a b t =
    let u = second (eqb a.size b.size) (eqb a.low b.low && eqb a.high b.high) t in
    let p = eqb→eq _ _ (first (eqb a.size b.size) (eqb a.low b.low && eqb a.high b.high) t) in
    let q = eqb→eq _ _ (first (eqb a.low b.low) (eqb a.high b.high) u) in
    let r = eqb→eq _ _ (second (eqb a.low b.low) (eqb a.high b.high) u) in
    λ i. record { size = p i; low = q i; high = r i }

-- the first bytes from one on and below another have this line
unfoldable in_range_lem : (from end : ℕ) (l : Lead) → ℕ → Bool
in_range_lem from end l b = not (leb from b && ltb b end) || same (lead_of b) l

passed : (a b : Bool) → a ≡ true → T (not a || b) → T b
passed true b e t = t
passed false b e t = never e

abbrev Says : ℕ → ℕ → Lead → Type 0
Says from end l = (b : ℕ) (r : Lead) → r ≡ l → from ≤ b → b < end → r ≡ lead_of b

-- by one test for all bytes
says : (from end : ℕ) (l : Lead) → T (every 256 (in_range_lem from end l)) → end ≤ 256 → Says from end l
unfolding in_range_lem
says from end l t h b r e low high =
    e ∙ sym (same_eq (lead_of b) l (passed (leb from b && ltb b end) (same (lead_of b) l) (rw (le-leb from b low, lt-ltb b end high) refl) (every_at 256 (in_range_lem from end l) t b (omega arith))))

-- what every line passes, and a first byte of no line, is passed for every number
abbrev all : (Lead → Bool) → List Line → Bool
all f [] = true
all f (l ∷ ls) = f l.lead && all f ls

find_passes : (f : Lead → Bool) (ls : List Line) (b : ℕ) → T (f (record { size = 0; low = 0; high = 0 })) → T (all f ls) → T (f (find ls b))
unfolding find
find_passes f [] b z t = z
find_passes f (l ∷ ls) b z t =
    either (λ (x : Lead). T (f x)) (between l.from l.to b) (first (f l.lead) (all f ls) t) (find_passes f ls b z (second (f l.lead) (all f ls) t))

-- a character takes at most 4 bytes, and its second is not 0
bounded : Lead → Bool
bounded l = leb l.size 4 && (leb l.size 1 || leb 1 l.low)

pub lead_bounds : (b : ℕ) → ((lead_of b).size ≤ 4) × (2 ≤ (lead_of b).size → 1 ≤ (lead_of b).low)
unfolding lead_of table bounded
lead_bounds b = by (lead_of b) (find_passes bounded table b tt tt)
  where
    second_of : (n low : ℕ) → T (leb n 1 || leb 1 low) → 2 ≤ n → 1 ≤ low
    second_of n low t h = leb→le 1 low (rw (lt-leb n 1 h) at t)

    by : (l : Lead) → T (bounded l) → (l.size ≤ 4) × (2 ≤ l.size → 1 ≤ l.low)
    by l t =
        (leb→le l.size 4 (first (leb l.size 4) (leb l.size 1 || leb 1 l.low) t), second_of l.size l.low (second (leb l.size 4) (leb l.size 1 || leb 1 l.low) t))

-- ---- the line of each first byte, from the first byte that the name says up to the next

abbrev lead : ℕ → ℕ → ℕ → Lead
lead size low high = record { size = size; low = low; high = high }

pub ascii : (b : ℕ) (r : Lead) → r ≡ lead 1 0 0xFF → b < 0x80 → r ≡ lead_of b
unfolding every in_range_lem same lead_of find table
ascii b r e h = says 0 0x80 (lead 1 0 0xFF) tt (omega arith) b r e (omega arith) h

pub from_80 : Says 0x80 0xC2 (lead 0 0 0)
unfolding every in_range_lem same lead_of find table
from_80 = says 0x80 0xC2 (lead 0 0 0) tt (omega arith)

pub from_c2 : Says 0xC2 0xE0 (lead 2 0x80 0xBF)
unfolding every in_range_lem same lead_of find table
from_c2 = says 0xC2 0xE0 (lead 2 0x80 0xBF) tt (omega arith)

pub from_e0 : Says 0xE0 0xE1 (lead 3 0xA0 0xBF)
unfolding every in_range_lem same lead_of find table
from_e0 = says 0xE0 0xE1 (lead 3 0xA0 0xBF) tt (omega arith)

pub from_e1 : Says 0xE1 0xED (lead 3 0x80 0xBF)
unfolding every in_range_lem same lead_of find table
from_e1 = says 0xE1 0xED (lead 3 0x80 0xBF) tt (omega arith)

pub from_ed : Says 0xED 0xEE (lead 3 0x80 0x9F)
unfolding every in_range_lem same lead_of find table
from_ed = says 0xED 0xEE (lead 3 0x80 0x9F) tt (omega arith)

pub from_ee : Says 0xEE 0xF0 (lead 3 0x80 0xBF)
unfolding every in_range_lem same lead_of find table
from_ee = says 0xEE 0xF0 (lead 3 0x80 0xBF) tt (omega arith)

pub from_f0 : Says 0xF0 0xF1 (lead 4 0x90 0xBF)
unfolding every in_range_lem same lead_of find table
from_f0 = says 0xF0 0xF1 (lead 4 0x90 0xBF) tt (omega arith)

pub from_f1 : Says 0xF1 0xF4 (lead 4 0x80 0xBF)
unfolding every in_range_lem same lead_of find table
from_f1 = says 0xF1 0xF4 (lead 4 0x80 0xBF) tt (omega arith)

pub from_f4 : Says 0xF4 0xF5 (lead 4 0x80 0x8F)
unfolding every in_range_lem same lead_of find table
from_f4 = says 0xF4 0xF5 (lead 4 0x80 0x8F) tt (omega arith)

pub from_f5 : Says 0xF5 256 (lead 0 0 0)
unfolding every in_range_lem same lead_of find table
from_f5 = says 0xF5 256 (lead 0 0 0) tt (omega arith)

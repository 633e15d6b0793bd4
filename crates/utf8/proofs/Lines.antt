-- The table's lines as ranges of every byte, and the lead of a first byte: the bytes fit a line exactly if those after the first fit
-- what the lead says. And whether bytes begin with some that fit, as a test.
use Prim.Native.Nat.{ℕ, zero, suc, ◌<◌, ◌≤◌}
use mathlib.Core.Path.{◌≡◌, refl, sym, ap, subst}
use mathlib.Core.Bool.{Bool, true, false, ◌&&◌}
use mathlib.Core.Logic.{inl, inr}
use mathlib.Core.List.{List, [], ◌∷◌, ◌++◌}
use native.Mathlib.Omega.{arith}
use lib.Dec.{leb, ltb}
use lib.ListN.{length, take, drop, drop_of_length-le, get_or-eq_default}
use lib.Seq.{drop-cons}
use borrow.Author.Tests.{le-leb, lt-leb, leb-true, ltb-true, ltb-false}
use Rattle.reads.specs.Num.{byte_at}
use Rattle.reads.specs.Range.{between}
use Rattle.reads.proofs.Tests.{never, split, both}
use Rattle.utf8.specs.Table.{Line, table, find, lead_of}
use Rattle.utf8.specs.WellFormed.{Range, range, tail, lines, Fits, FitsOne, Sequence}
use Rattle.utf8.specs.declared.Lead.{Lead}

abbrev tails : ℕ → List Range
tails zero = []
tails (suc n) = tail ∷ tails n

length-tails : (n : ℕ) → length (tails n) ≡ n
length-tails zero = refl
length-tails (suc n) = ap suc (length-tails n)

-- the ranges after the first, of a line of n bytes whose second has this one
abbrev pub after : ℕ → Range → List Range
after zero r = []
after (suc zero) r = []
after (suc (suc n)) r = r ∷ tails n

pub after_length : (n : ℕ) (r : Range) → 1 ≤ n → n ≡ suc (length (after n r))
after_length zero r h = absurd (omega arith)
after_length (suc zero) r h = refl
after_length (suc (suc n)) r h = ap (λ (k : ℕ). suc (suc k)) (sym (length-tails n))

abbrev pub later : Lead → List Range
later l = after l.size (range l.low l.high)

-- a lead of some line, and the bytes after the first
abbrev pub Follow : Lead → List ℕ → Type 0
Follow l bs = (1 ≤ l.size) × Fits (later l) bs

abbrev ranges : List Line → List (List Range)
ranges [] = []
ranges (l ∷ ls) = (range l.from l.to ∷ later l.lead) ∷ ranges ls

lines_are : lines ≡ ranges table
unfolding lines table
lines_are = refl

-- no two lines have a first byte in common
abbrev apart : ℕ → List Line → Bool
apart k [] = true
apart k (l ∷ ls) = leb k l.from && (leb l.from l.to && (leb 1 l.lead.size && apart (suc l.to) ls))

apart_told : (k : ℕ) (l : Line) (ls : List Line) → apart k (l ∷ ls) ≡ true → (k ≤ l.from) × (l.from ≤ l.to) × (1 ≤ l.lead.size) × (apart (suc l.to) ls ≡ true)
apart_told k l ls t =
    let u = both (leb k l.from) (leb l.from l.to && (leb 1 l.lead.size && apart (suc l.to) ls)) t in
    let v = both (leb l.from l.to) (leb 1 l.lead.size && apart (suc l.to) ls) u.1 in
    let w = both (leb 1 l.lead.size) (apart (suc l.to) ls) v.1 in
    (leb-true k l.from u.0, leb-true l.from l.to v.0, leb-true 1 l.lead.size w.0, w.1)

above : (from to b : ℕ) → to < b → between from to b ≡ false
above from to b h = by (leb from b) (lt-leb b to h)
  where
    by : (x : Bool) {y : Bool} → y ≡ false → (x && y) ≡ false
    by true e = e
    by false e = refl

fits_follow : (ls : List Line) (k : ℕ) → apart k ls ≡ true → (b : ℕ) (bs : List ℕ) → FitsOne (ranges ls) (b ∷ bs) → (k ≤ b) × Follow (find ls b) bs
unfolding find
fits_follow [] k t b bs f = absurd f
fits_follow (l ∷ ls) k t b bs (inl (low, high, f)) =
    let u = apart_told k l ls t in
    rw (le-leb l.from b low, le-leb b l.to high) (omega (arith, u.0), (u.2, f))
fits_follow (l ∷ ls) k t b bs (inr f) =
    let u = apart_told k l ls t in
    let g = fits_follow ls (suc l.to) u.3 b bs f in
    rw (above l.from l.to b (omega (arith, g.0))) (omega (arith, g.0, u.0, u.1), g.1)

follow_fits : (ls : List Line) (b : ℕ) (bs : List ℕ) → Follow (find ls b) bs → FitsOne (ranges ls) (b ∷ bs)
unfolding find
follow_fits [] b bs (h, f) = absurd (omega arith)
follow_fits (l ∷ ls) b bs g =
    split (between l.from l.to b)
    (λ t. let u = both (leb l.from b) (leb b l.to) t in inl (leb-true l.from b u.0, leb-true b l.to u.1, (rw t at g).1))
    (λ t. inr (follow_fits ls b bs (rw t at g)))

never_empty : (ls : List Line) → FitsOne (ranges ls) [] → ⊥
never_empty [] f = f
never_empty (l ∷ ls) (inl f) = f
never_empty (l ∷ ls) (inr f) = never_empty ls f

pub sequence_some : Sequence [] → ⊥
sequence_some f = never_empty table (rw lines_are at f)

pub sequence_follow : (b : ℕ) (bs : List ℕ) → Sequence (b ∷ bs) → Follow (lead_of b) bs
unfolding lead_of table
sequence_follow b bs f = (fits_follow table 0 refl b bs (rw lines_are at f)).1

pub follow_sequence : (b : ℕ) (bs : List ℕ) → Follow (lead_of b) bs → Sequence (b ∷ bs)
unfolding lead_of
follow_sequence b bs g = subst (λ (ls : List (List Range)). FitsOne ls (b ∷ bs)) (sym lines_are) (follow_fits table b bs g)

-- ---- bytes that begin with some that fit

abbrev pub begins : List Range → List ℕ → Bool
begins [] bs = true
begins (r ∷ rs) [] = false
begins (r ∷ rs) (b ∷ bs) = between r.low r.high b && begins rs bs

pub fits_begins : (rs : List Range) (q rest : List ℕ) → Fits rs q → (begins rs (q ++ rest) ≡ true) × (length q ≡ length rs)
fits_begins [] [] rest f = (refl, refl)
fits_begins [] (b ∷ q) rest f = absurd f
fits_begins (r ∷ rs) [] rest f = absurd f
fits_begins (r ∷ rs) (b ∷ q) rest (low, high, f) =
    let g = fits_begins rs q rest f in
    (rw (le-leb r.low b low, le-leb b r.high high) g.0, ap suc g.1)

pub begins_fits : (rs : List Range) (bs : List ℕ) → begins rs bs ≡ true → (length rs ≤ length bs) × Fits rs (take (length rs) bs)
begins_fits [] bs t = (omega arith, tt)
begins_fits (r ∷ rs) [] t = never t
begins_fits (r ∷ rs) (b ∷ bs) t =
    let u = both (between r.low r.high b) (begins rs bs) t in
    let v = both (leb r.low b) (leb b r.high) u.0 in
    let g = begins_fits rs bs u.1 in
    (omega (arith, g.0), (leb-true r.low b v.0, leb-true b r.high v.1, g.1))

-- the byte at a place in place of the rest's first: one past the end is 0, which no range has
pub begins_at : (s : List ℕ) (j k : ℕ) → k ≡ suc j → (r : Range) (rs : List Range) → 1 ≤ r.low → begins (r ∷ rs) (drop j s) ≡ (between r.low r.high (byte_at s j) && begins rs (drop k s))
begins_at s j k e r rs h =
    split (ltb j (length s))
    (λ t. rw (drop-cons s j 0 (ltb-true j (length s) t), e) refl)
    (λ t. rw (drop_of_length-le s (ltb-false j (length s) t), get_or-eq_default s 0 (ltb-false j (length s) t), lt-leb r.low 0 h) refl)

-- A byte's set bits, from one to the next: the first run of them stands behind its leading zeros, and what is found among the set bits is
-- found in that run or among the set bits behind it. A first set bit alone is a run of one.
use Prim.Native.Nat.{ℕ, ◌+◌, ◌*◌, ◌-◌, ◌/◌, ◌%◌, ◌^◌, ◌≤◌, ◌<◌}
use mathlib.Core.Path.{◌≡◌, refl, sym, ap, ◌∙◌}
use mathlib.Core.Bool.{Bool, true, false, not, ◌&&◌, ◌||◌, beq}
use mathlib.Core.Logic.{⊎_elim}
use native.Mathlib.Omega.{arith}
use native.Mathlib.Nat.{add-mul}
use lib.Count.{count_leading_zeros}
use lib.Dec.{eqb, leb, ltb}
use mir.Syntax.{w8, w64}
use mir.Val.{Fits}
use borrow.Author.Tests.{leb-true, le-leb, ltb-true, ltb-false, lt-ltb, ne_eqb, not-true}
use Rattle.reads.proofs.Tests.{both, never, split, or_first_lem, or_second, or_cases}
use Rattle.bitmaps.specs.Paint.{some}
use Rattle.bitmaps.specs.Place.{place_at}
use Rattle.bitmaps.specs.Rows.{column}
use Rattle.bitmaps.specs.Dots.{block_dot, row_dot}
use Rattle.bitmaps.proofs.Searching.{and_true, same_test, some_true, some_witness, some_false, some_same, below_test}

-- columns z to z + n - 1 of byte b are set, and none before them; column k of `rest` is column k + d of b, if that stands behind them
pub record FirstRun (b z n d rest : ℕ) : Type 0 where
  pub some_set : 1 ≤ n
  pub inside : z + n ≤ 8
  pub near : d ≤ z + n
  pub blank : (k : ℕ) → k < z → column b k ≡ false
  pub is_set : (j : ℕ) → j < n → column b (z + j) ≡ true
  pub behind : (k : ℕ) → k < 8 → column rest k ≡ (leb (z + n) (k + d) && (ltb (k + d) 8 && column b (k + d)))

-- ---- all bytes, by one search

-- the same as a test
unfoldable is_first_run : ℕ → ℕ → ℕ → ℕ → ℕ → Bool
is_first_run b z n d rest =
    (leb 1 n && (leb (z + n) 8 && leb d (z + n))) && ((not (some z (column b)) && not (some n (λ j. not (column b (z + j)))))
    && not (some 8 (λ k. not (beq (column rest k) (leb (z + n) (k + d) && (ltb (k + d) 8 && column b (k + d)))))))

beq_same : (a b : Bool) → beq a b ≡ true → a ≡ b
beq_same true true e = refl
beq_same true false e = sym e
beq_same false true e = e
beq_same false false e = refl

run_test : (b z n d rest : ℕ) → is_first_run b z n d rest ≡ true → FirstRun b z n d rest
unfolding is_first_run
run_test b z n d rest e =
    let same : ℕ → Bool = λ k. beq (column rest k) (leb (z + n) (k + d) && (ltb (k + d) 8 && column b (k + d))) in
    let none = not (some z (column b)) in
    let all = not (some n (λ j. not (column b (z + j)))) in
    let (places, columns) = both (leb 1 n && (leb (z + n) 8 && leb d (z + n))) ((none && all) && not (some 8 (λ k. not (same k)))) e in
    let (few, ends) = both (leb 1 n) (leb (z + n) 8 && leb d (z + n)) places in
    let (inside, near) = both (leb (z + n) 8) (leb d (z + n)) ends in
    let (run, rests) = both (none && all) (not (some 8 (λ k. not (same k)))) columns in
    let (blank, sets) = both none all run in
    record {
      some_set = leb-true 1 n few;
      inside = leb-true (z + n) 8 inside;
      near = leb-true d (z + n) near;
      blank = some_false z (column b) (not-true (some z (column b)) blank);
      is_set = below_test n (λ j. column b (z + j)) (not-true (some n (λ j. not (column b (z + j)))) sets);
      behind =
          λ k h. beq_same (column rest k) (leb (z + n) (k + d) && (ltb (k + d) 8 && column b (k + d)))
          (below_test 8 same (not-true (some 8 (λ k. not (same k))) rests) k h);
    }

-- a byte without its first set bit, which stands behind z columns
abbrev pub without_bit : ℕ → ℕ → ℕ
without_bit b z = b - 128 / 2 ^ z

-- the length of the run behind z columns, and what stands behind the run, moved to the top
abbrev pub run_of : ℕ → ℕ → ℕ
run_of b z = count_leading_zeros 8 (255 - b * 2 ^ z % 256)

abbrev pub behind_run : ℕ → ℕ → ℕ → ℕ
behind_run b z n = b * 2 ^ z % 256 * 2 ^ (n - 1) % 256 * 2 ^ 1 % 256

unfoldable blank_or : ℕ → Bool
blank_or b =
    let z = count_leading_zeros 8 b in
    let n = run_of b z in
    eqb b 0 || (is_first_run b z 1 0 (without_bit b z) && is_first_run b z n (z + n) (behind_run b z n))

-- no byte is an exception
all_first : some 256 (λ b. not (blank_or b)) ≡ false
unfolding some blank_or is_first_run column count_leading_zeros
all_first = refl

module _ (b : ℕ) (h : b < 256) (set : b ≡ 0 → ⊥) where
  abbrev z : ℕ
  z = count_leading_zeros 8 b

  firsts : (is_first_run b z 1 0 (without_bit b z) ≡ true) × (is_first_run b z (run_of b z) (z + run_of b z) (behind_run b z (run_of b z)) ≡ true)
  unfolding blank_or
  firsts =
      both (is_first_run b z 1 0 (without_bit b z)) (is_first_run b z (run_of b z) (z + run_of b z) (behind_run b z (run_of b z)))
      (rw (ne_eqb b 0 set) at (below_test 256 blank_or all_first b h))

  -- a byte's first set bit
  pub first_bit : FirstRun b (count_leading_zeros 8 b) 1 0 (without_bit b (count_leading_zeros 8 b))
  first_bit = run_test b z 1 0 (without_bit b z) firsts.0

  -- a byte's first run of set bits
  pub first_run : FirstRun b (count_leading_zeros 8 b) (run_of b (count_leading_zeros 8 b)) (count_leading_zeros 8 b + run_of b (count_leading_zeros 8 b)) (behind_run b (count_leading_zeros 8 b) (run_of b (count_leading_zeros 8 b)))
  first_run = run_test b z (run_of b z) (z + run_of b z) (behind_run b z (run_of b z)) firsts.1

-- ---- what is found among the set bits

module _ (b z n d rest : ℕ) (first : FirstRun b z n d rest) where
  in_run : (f : ℕ → Bool) (k : ℕ) → k < 8 → column b k ≡ true → f k ≡ true → some n (λ j. f (z + j)) || some 8 (λ k. column rest k && f (k + d)) ≡ true
  in_run f k h set passes =
      let run = some n (λ j. f (z + j)) in
      let more = some 8 (λ k. column rest k && f (k + d)) in
      split (ltb k z) (λ t. never (sym (first.blank k (ltb-true k z t)) ∙ set))
      (λ t.
      let from = ltb-false k z t in
      split (ltb k (z + n))
      (λ u.
      let here : z + (k - z) ≡ k = omega arith in
      or_first_lem run more (some_true n (λ j. f (z + j)) (k - z) (omega (arith, ltb-true k (z + n) u)) (rw here passes)))
      (λ u.
      let far = ltb-false k (z + n) u in
      let there : k - d + d ≡ k = omega (arith, first.near) in
      let shown : column rest (k - d) ≡ true = first.behind (k - d) (omega arith) ∙ rw (there, le-leb (z + n) k far, lt-ltb k 8 h) set in
      or_second run more
      (some_true 8 (λ k. column rest k && f (k + d)) (k - d) (omega arith) (and_true (column rest (k - d)) (f (k - d + d)) shown (rw there passes)))))

  -- what is found among a byte's set bits is found in the run or behind it
  pub run_or_behind : (f : ℕ → Bool) → some 8 (λ k. column b k && f k) ≡ some n (λ j. f (z + j)) || some 8 (λ k. column rest k && f (k + d))
  run_or_behind f =
      let run = some n (λ j. f (z + j)) in
      let more = some 8 (λ k. column rest k && f (k + d)) in
      same_test (some 8 (λ k. column b k && f k)) (run || more)
      (λ e.
      let (k, h, t) = some_witness 8 (λ k. column b k && f k) e in
      let (set, passes) = both (column b k) (f k) t in
      in_run f k h set passes)
      (λ e.
      ⊎_elim
      (λ u.
      let (j, h, passes) = some_witness n (λ j. f (z + j)) u in
      some_true 8 (λ k. column b k && f k) (z + j) (omega (arith, first.inside)) (and_true (column b (z + j)) (f (z + j)) (first.is_set j h) passes))
      (λ u.
      let (k, h, t) = some_witness 8 (λ k. column rest k && f (k + d)) u in
      let (shown, passes) = both (column rest k) (f (k + d)) t in
      let (behind, there) = both (leb (z + n) (k + d)) (ltb (k + d) 8 && column b (k + d)) (sym (first.behind k h) ∙ shown) in
      let (near, set) = both (ltb (k + d) 8) (column b (k + d)) there in
      some_true 8 (λ k. column b k && f k) (k + d) (ltb-true (k + d) 8 near) (and_true (column b (k + d)) (f (k + d)) set passes))
      (or_cases run more e))

  -- and so a pixel of them
  pub dot_or_behind : (p stride scale : ℕ) (test : ℕ → Bool) → row_dot (column b) (place_at p stride scale) 8 test
      ≡ some n (λ j. block_dot (place_at (p + (z + j) * scale) stride scale) test) || row_dot (column rest) (place_at (p + d * scale) stride scale) 8 test
  unfolding row_dot
  dot_or_behind p stride scale test =
      let dot : ℕ → Bool = λ k. block_dot (place_at (p + k * scale) stride scale) test in
      run_or_behind dot
      ∙ ap (λ (t : Bool). some n (λ j. dot (z + j)) || t)
      (some_same 8 (λ k. column rest k && dot (k + d)) (λ k. column rest k && block_dot (place_at (p + d * scale + k * scale) stride scale) test)
      (λ k h. let place : p + (k + d) * scale ≡ p + d * scale + k * scale = omega (arith, add-mul k d scale) in rw place refl))

-- ---- the numbers that are formed of a byte with a set bit

-- its first set bit is worth no more than the byte
unfoldable worth_or : ℕ → Bool
worth_or b = eqb b 0 || (leb 1 (128 / 2 ^ count_leading_zeros 8 b) && leb (128 / 2 ^ count_leading_zeros 8 b) b)

all_worth : some 256 (λ b. not (worth_or b)) ≡ false
unfolding some worth_or count_leading_zeros
all_worth = refl

module _ (b : ℕ) (h : b < 2 ^ 8) (set : b ≡ 0 → ⊥) where
  worth : (1 ≤ 128 / 2 ^ count_leading_zeros 8 b) × (128 / 2 ^ count_leading_zeros 8 b ≤ b)
  unfolding worth_or
  worth =
      let bit = 128 / 2 ^ count_leading_zeros 8 b in
      let (some-worth, within) = both (leb 1 bit) (leb bit b) (rw (ne_eqb b 0 set) at (below_test 256 worth_or all_worth b h)) in
      (leb-true 1 bit some-worth, leb-true bit b within)

  pub blank_below : count_leading_zeros 8 b < 8
  blank_below = let first = first_bit b h set in omega (arith, first.inside, first.some_set)

  pub blank_short : Fits w8 (count_leading_zeros 8 b)
  blank_short = omega (arith, blank_below)

  pub blank_fits : Fits w64 (count_leading_zeros 8 b)
  blank_fits = omega (arith, blank_below)

  pub bit_within : 128 / 2 ^ count_leading_zeros 8 b ≤ b
  bit_within = worth.1

  pub bit_falls : b - 128 / 2 ^ count_leading_zeros 8 b < b
  bit_falls = omega (arith, worth)

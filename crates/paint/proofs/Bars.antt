-- The set bits of a byte, run by run: the blocks of a run are one bar, and what the byte colours is the bar of its first run and what the
-- set bits behind that colour. A first set bit alone is a run of one.
use Prim.Native.Nat.{ℕ, suc, ◌+◌, ◌*◌, ◌-◌, ◌/◌, ◌%◌, ◌^◌, ◌≤◌, ◌<◌}
use mathlib.Core.Path.{◌≡◌, refl, sym, ap, ◌∙◌}
use mathlib.Core.Bool.{Bool, false, ◌||◌}
use mathlib.Core.List.{List}
use native.Mathlib.Omega.{arith}
use native.Mathlib.Nat.{add-mul, suc-mul, one-mul, zero-mul, mul-le-mul_right, div-add-mod', mod-lt, div-lt_iff_lt-mul}
use lib.Count.{count_leading_zeros}
use lib.Dec.{eqb, leb}
use lib.ListN.{length}
use mir.Syntax.{w8, w64}
use mir.Val.{Fits}
use borrow.Author.Tests.{leb-false}
use Rattle.reads.proofs.Tests.{or_neither}
use Rattle.bitmaps.specs.Place.{place_at}
use Rattle.bitmaps.specs.Paint.{some, painted}
use Rattle.bitmaps.specs.Rows.{column}
use Rattle.bitmaps.specs.Dots.{block_dot, row_dot}
use Rattle.bitmaps.specs.Ink.{in_row, row_past}
use Rattle.bitmaps.proofs.Searching.{same_test, some_true, some_witness, some_false, some_same}
use Rattle.bitmaps.proofs.Painting.{length-painted, painted_none, painted_or, painted_same}
use Rattle.bitmaps.proofs.SetBits.{FirstRun, without_bit, run_of, behind_run, first_bit, first_run, dot_or_behind}
use Rattle.paint.specs.Ink.{bar_dot, in_bar}

-- n blocks beside each other are a bar
module _ (n q stride scale : ℕ) (test : ℕ → Bool) where
  abbrev block : ℕ → Bool
  block j = block_dot (place_at (q + j * scale) stride scale) test

  abbrev line : ℕ → ℕ → Bool
  line a b = test (q + a * stride + b)

  blocks_bar : some n block ≡ bar_dot (place_at q stride scale) (n * scale) test
  unfolding block_dot bar_dot
  blocks_bar =
      let dot : ℕ → ℕ → ℕ → Bool = λ j a b. test (q + j * scale + a * stride + b) in
      same_test (some n block) (bar_dot (place_at q stride scale) (n * scale) test)
      (λ e.
      let (j, h, lines) = some_witness n block e in
      let (a, l, found) = some_witness scale (λ a. some scale (dot j a)) lines in
      let (b, m, t) = some_witness scale (dot j a) found in
      let end : suc j * scale ≤ n * scale = mul-le-mul_right scale h in
      let there : q + j * scale + a * stride + b ≡ q + a * stride + (j * scale + b) = omega arith in
      some_true scale (λ a. some (n * scale) (line a)) a l
      (some_true (n * scale) (line a) (j * scale + b) (omega (arith, end, suc-mul j scale)) (rw there at t)))
      (λ e.
      let (a, l, found) = some_witness scale (λ a. some (n * scale) (line a)) e in
      let (k, m, t) = some_witness (n * scale) (line a) found in
      let side : 1 ≤ scale = omega arith in
      let j = k / scale in
      let b = k % scale in
      let there : q + a * stride + k ≡ q + j * scale + a * stride + b = omega (arith, div-add-mod' k scale) in
      some_true n block j ((div-lt_iff_lt-mul side).1 m)
      (some_true scale (λ a. some scale (dot j a)) a l (some_true scale (dot j a) b (mod-lt k {m = scale} side) (rw there at t))))

-- what a byte colours: its first run's bar, and what is behind
module _ (b z n d rest : ℕ) (first : FirstRun b z n d rest) (p stride scale : ℕ) where
  pub bar_or_behind : (test : ℕ → Bool) → row_dot (column b) (place_at p stride scale) 8 test
      ≡ bar_dot (place_at (p + z * scale) stride scale) (n * scale) test || row_dot (column rest) (place_at (p + d * scale) stride scale) 8 test
  bar_or_behind test =
      let more = row_dot (column rest) (place_at (p + d * scale) stride scale) 8 test in
      dot_or_behind b z n d rest first p stride scale test
      ∙ ap (λ (t : Bool). t || more)
      (some_same n (λ j. block_dot (place_at (p + (z + j) * scale) stride scale) test) (block n (p + z * scale) stride scale test)
      (λ j h. let place : p + (z + j) * scale ≡ p + z * scale + j * scale = omega (arith, add-mul z j scale) in rw place refl)
      ∙ blocks_bar n (p + z * scale) stride scale test)

-- ---- a byte's loop

-- what the byte colours in the old buffer, the set bits left colour in this one, from `next` on
pub record Left (byte at stride scale colour : ℕ) (old buf : List ℕ) (left next : ℕ) : Type 0 where
  pub small : left < 2 ^ 8
  pub same : length buf ≡ length old
  pub is : painted (in_row (column byte) (place_at at stride scale) 8) colour old ≡ painted (in_row (column left) (place_at next stride scale) 8) colour buf
  pub room : row_past (column left) (place_at next stride scale) 8 (length old) ≡ false

module _ (byte at stride scale colour : ℕ) (old : List ℕ) where
  -- at first the whole byte is left
  pub all_left : byte < 2 ^ 8 → row_past (column byte) (place_at at stride scale) 8 (length old) ≡ false
      → Left byte at stride scale colour old old byte at
  all_left h e = record { small = h; same = refl; is = refl; room = e }

  module _ (buf : List ℕ) (left next : ℕ) (so_far : Left byte at stride scale colour old buf left next) where
    -- where no bit is left, all is coloured
    pub none_left : left ≡ 0 → buf ≡ painted (in_row (column byte) (place_at at stride scale) 8) colour old
    unfolding in_row row_dot some column
    none_left e =
        sym (so_far.is ∙ painted_none (in_row (column left) (place_at next stride scale) 8) colour buf (λ i h. rw e refl))

    -- the first run of the set bits that are left, and what is behind it
    module _ (z n d rest : ℕ) (first : FirstRun left z n d rest) where
      abbrev in_first : ℕ → Bool
      in_first = in_bar (place_at (next + z * scale) stride scale) (n * scale)

      abbrev in_behind : ℕ → Bool
      in_behind = in_row (column rest) (place_at (next + d * scale) stride scale) 8

      -- no pixel of it or behind it lies past the buffer
      no_past : (bar_dot (place_at (next + z * scale) stride scale) (n * scale) (λ j. leb (length old) j) ≡ false)
          × (row_past (column rest) (place_at (next + d * scale) stride scale) 8 (length old) ≡ false)
      unfolding row_past
      no_past =
          let past : ℕ → Bool = λ j. leb (length old) j in
          or_neither (bar_dot (place_at (next + z * scale) stride scale) (n * scale) past) (row_dot (column rest) (place_at (next + d * scale) stride scale) 8 past)
          (sym (bar_or_behind left z n d rest first next stride scale past) ∙ so_far.room)

      -- its bar ends in the buffer
      inside : 1 ≤ scale → next + z * scale + (scale - 1) * stride + n * scale ≤ length old
      unfolding bar_dot
      inside side =
          let long = n * scale in
          let past : ℕ → ℕ → Bool = λ a b. leb (length old) (next + z * scale + a * stride + b) in
          let some-long : 1 * scale ≤ n * scale = mul-le-mul_right scale first.some_set in
          let line = some_false scale (λ a. some long (past a)) no_past.0 (scale - 1) (omega arith) in
          let dot = some_false long (past (scale - 1)) line (long - 1) (omega (arith, one-mul scale)) in
          omega (arith, one-mul scale, leb-false (length old) (next + z * scale + (scale - 1) * stride + (long - 1)) dot)

      -- with its bar coloured, what is behind it is left
      less : (new : List ℕ) → rest < 2 ^ 8 → new ≡ painted in_first colour buf → Left byte at stride scale colour old new rest (next + d * scale)
      unfolding in_row in_bar
      less new h e = record {
        small = h;
        same = ap length e ∙ length-painted in_first colour buf ∙ so_far.same;
        is =
            so_far.is
            ∙ painted_same (in_row (column left) (place_at next stride scale) 8) (λ i. in_first i || in_behind i) colour buf
            (λ i l. bar_or_behind left z n d rest first next stride scale (λ j. eqb i j))
            ∙ painted_or in_first in_behind colour buf ∙ ap (painted in_behind colour) (sym e);
        room = no_past.1;
      }

-- ---- bit by bit

module _ (byte at stride scale colour : ℕ) (old buf : List ℕ) (left : ℕ) (so_far : Left byte at stride scale colour old buf left at) (set : left ≡ 0 → ⊥) where
  first : FirstRun left (count_leading_zeros 8 left) 1 0 (without_bit left (count_leading_zeros 8 left))
  first = first_bit left so_far.small set

  bit_inside : 1 ≤ scale → at + count_leading_zeros 8 left * scale + (scale - 1) * stride + scale ≤ length old
  bit_inside side = omega (arith, one-mul scale, inside byte at stride scale colour old buf left at so_far (count_leading_zeros 8 left) 1 0 (without_bit left (count_leading_zeros 8 left)) first side)

  pub bit_room : 1 ≤ scale → at + count_leading_zeros 8 left * scale + (scale - 1) * stride + scale ≤ length buf
  bit_room side = omega (arith, bit_inside side, so_far.same)

  pub bit_fits : 1 ≤ scale → length old < 2 ^ 64 → Fits w64 (at + count_leading_zeros 8 left * scale)
  bit_fits side l = omega (arith, bit_inside side)

  pub bit_times_fits : 1 ≤ scale → length old < 2 ^ 64 → Fits w64 (count_leading_zeros 8 left * scale)
  bit_times_fits side l = omega (arith, bit_inside side)

  pub bit_less : (new : List ℕ) → new ≡ painted (in_bar (place_at (at + count_leading_zeros 8 left * scale) stride scale) scale) colour buf
      → Left byte at stride scale colour old new (left - 128 / 2 ^ count_leading_zeros 8 left) at
  bit_less new e =
      let z = count_leading_zeros 8 left in
      let long : scale ≡ 1 * scale = sym (one-mul scale) in
      let stays : at + 0 * scale ≡ at = omega (arith, zero-mul scale) in
      rw stays at
      (less byte at stride scale colour old buf left at so_far z 1 0 (without_bit left z) first new (omega (arith, so_far.small))
      (rw (one-mul scale) e))

-- ---- run by run

module _ (byte at stride scale colour : ℕ) (old buf : List ℕ) (left next : ℕ) (so_far : Left byte at stride scale colour old buf left next) (set : left ≡ 0 → ⊥) where
  abbrev z : ℕ
  z = count_leading_zeros 8 left

  abbrev n : ℕ
  n = run_of left (count_leading_zeros 8 left)

  run : FirstRun left z n (z + n) (behind_run left z n)
  run = first_run left so_far.small set

  run_inside : 1 ≤ scale → next + z * scale + (scale - 1) * stride + n * scale ≤ length old
  run_inside side = inside byte at stride scale colour old buf left next so_far z n (z + n) (behind_run left z n) run side

  pub run_some : 1 ≤ count_leading_zeros 8 (255 - left * 2 ^ count_leading_zeros 8 left % 256)
  run_some = run.some_set

  pub run_fits : Fits w64 (count_leading_zeros 8 (255 - left * 2 ^ count_leading_zeros 8 left % 256))
  run_fits = omega (arith, run.inside)

  pub run_short : Fits w8 (count_leading_zeros 8 (255 - left * 2 ^ count_leading_zeros 8 left % 256) - 1)
  run_short = omega (arith, run.inside)

  pub run_below : count_leading_zeros 8 (255 - left * 2 ^ count_leading_zeros 8 left % 256) - 1 < 8
  run_below = omega (arith, run.inside, run.some_set)

  module _ (side : 1 ≤ scale) where
    -- its bar has room
    pub run_room : next + count_leading_zeros 8 left * scale + (scale - 1) * stride + count_leading_zeros 8 (255 - left * 2 ^ count_leading_zeros 8 left % 256) * scale ≤ length buf
    run_room = omega (arith, run_inside side, so_far.same)

    -- the place behind it is nearer to the buffer's end
    pub run_nearer : length old - (next + count_leading_zeros 8 left * scale + count_leading_zeros 8 (255 - left * 2 ^ count_leading_zeros 8 left % 256) * scale) < length old - next
    run_nearer =
        let some-long : 1 * scale ≤ n * scale = mul-le-mul_right scale run.some_set in
        omega (arith, run_inside side, one-mul scale)

    module _ (l : length old < 2 ^ 64) where
      pub run_times_fits : Fits w64 (count_leading_zeros 8 left * scale)
      run_times_fits = omega (arith, run_inside side)

      pub run_place_fits : Fits w64 (next + count_leading_zeros 8 left * scale)
      run_place_fits = omega (arith, run_inside side)

      pub run_long_fits : Fits w64 (count_leading_zeros 8 (255 - left * 2 ^ count_leading_zeros 8 left % 256) * scale)
      run_long_fits = omega (arith, run_inside side)

      pub run_end_fits : Fits w64 (next + count_leading_zeros 8 left * scale + count_leading_zeros 8 (255 - left * 2 ^ count_leading_zeros 8 left % 256) * scale)
      run_end_fits = omega (arith, run_inside side)

  pub run_less : (new : List ℕ)
      → new ≡ painted (in_bar (place_at (next + count_leading_zeros 8 left * scale) stride scale) (count_leading_zeros 8 (255 - left * 2 ^ count_leading_zeros 8 left % 256) * scale)) colour buf
      → Left byte at stride scale colour old new (behind_run left (count_leading_zeros 8 left) (run_of left (count_leading_zeros 8 left)))
      (next + count_leading_zeros 8 left * scale + count_leading_zeros 8 (255 - left * 2 ^ count_leading_zeros 8 left % 256) * scale)
  run_less new e =
      let moved : next + (z + n) * scale ≡ next + z * scale + n * scale = omega (arith, add-mul z n scale) in
      rw moved at (less byte at stride scale colour old buf left next so_far z n (z + n) (behind_run left z n) run new (omega arith) e)

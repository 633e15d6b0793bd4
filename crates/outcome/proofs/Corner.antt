-- 16 by corners: of a block, of a row and of a whole glyph the last pixel lies farthest, so that one comparison tells that all fit.
use Prim.Native.Nat.{ℕ, suc, ◌+◌, ◌-◌, ◌*◌, ◌≤◌, ◌<◌}
use mathlib.Core.Path.{◌≡◌, refl, sym, ap, ◌∙◌}
use mathlib.Core.Bool.{Bool, false, ◌&&◌}
use native.Mathlib.Nat.{mul-le-mul_right, suc-mul}
use native.Mathlib.Omega.{arith}
use lib.Dec.{leb, ltb}
use borrow.Author.Tests.{leb-true, le-leb, lt-leb, ltb-true, lt-ltb}
use Rattle.reads.proofs.Tests.{never, split}
use Rattle.bitmaps.specs.Place.{Place, place_at, column_place}
use Rattle.bitmaps.specs.Paint.{some}
use Rattle.bitmaps.specs.Dots.{block_dot, row_dot}
use Rattle.bitmaps.specs.Ink.{row_past, rows_past, every_bit}
use Rattle.bitmaps.proofs.Searching.{and_none, same_test, some_true, some_witness, some_none}
use Rattle.bitmaps.proofs.Pixels.{dot_true, dot_found, dot_moved}
use Rattle.bitmaps.proofs.Shift.{past_room}
use Rattle.bitmaps.proofs.NoDots.{none_found}

pub last_line : (a n stride : ℕ) → a < n → a * stride ≤ (n - 1) * stride
last_line a n stride h = mul-le-mul_right stride (omega arith)

-- a block passes the room where its last pixel does
pub block_past : (at : Place) (room : ℕ) → 1 ≤ at.scale
    → block_dot at (λ j. leb room j) ≡ ltb room (at.p + (at.scale - 1) * at.stride + at.scale)
unfolding block_dot
block_past at room low =
    let n = at.scale in
    let past : ℕ → ℕ → Bool = λ a b. leb room (at.p + a * at.stride + b) in
    let last = at.p + (n - 1) * at.stride in
    same_test (block_dot at (λ j. leb room j)) (ltb room (last + n))
    (λ t.
    let (a, h, e) = some_witness n (λ a. some n (past a)) t in
    let (b, l, f) = some_witness n (past a) e in
    lt-ltb room (last + n) (omega (arith, leb-true room (at.p + a * at.stride + b) f, last_line a n at.stride h)))
    (λ t.
    some_true n (λ a. some n (past a)) (n - 1) (omega arith)
    (some_true n (past (n - 1)) (n - 1) (omega arith) (le-leb room (last + (n - 1)) (omega (arith, ltb-true room (last + n) t)))))

-- a row fits where the block of its last column does
pub row_fits : (bit : ℕ → Bool) (at : Place) (columns room : ℕ) → at.p + (at.scale - 1) * at.stride + columns * at.scale ≤ room
    → false ≡ row_past bit at columns room
unfolding row_past row_dot block_dot
row_fits bit at columns room h =
    let n = at.scale in
    let past : ℕ → ℕ → ℕ → Bool = λ c a b. leb room (at.p + c * n + a * at.stride + b) in
    sym (some_none columns (λ c. bit c && block_dot (column_place at c) (λ j. leb room j)) (λ c l.
    and_none (bit c) (block_dot (column_place at c) (λ j. leb room j))
    (some_none n (λ a. some n (past c a)) (λ a k.
    some_none n (past c a) (λ b m.
    let before : suc c * n ≤ columns * n = mul-le-mul_right n l in
    lt-leb room (at.p + c * n + a * at.stride + b) (omega (arith, before, suc-mul c n, last_line a n at.stride k)))))))

-- what passes a buffer of `len` pixels passes the room that it has from p on
pub by_room : (bit : ℕ → ℕ → Bool) (p stride scale columns n len room : ℕ) (past : Bool) → room ≡ len - p
    → past ≡ rows_past bit (place_at 0 stride scale) columns n room → past ≡ rows_past bit (place_at p stride scale) columns n len
unfolding rows_past
by_room bit p stride scale columns n len room past room-is e = rw room-is at e ∙ sym (past_room stride scale columns n bit p len)

-- the last row's last block
module _ (p stride scale columns n len room : ℕ) (room-is : room ≡ len - p) (rows : n ≡ 0 → ⊥) (some : columns ≡ 0 → ⊥) (blocks : scale ≡ 0 → ⊥) where
  abbrev corner : ℕ
  corner = (n - 1) * stride * scale + (scale - 1) * stride + columns * scale

  by_corner : ltb room corner ≡ rows_past every_bit (place_at 0 stride scale) columns n room
  unfolding rows_past every_bit
  by_corner =
      let first = place_at 0 stride scale in
      let past : ℕ → Bool = λ j. leb room j in
      let last = (columns - 1) * scale in
      let column : columns * scale ≡ last + scale = let e : columns ≡ suc (columns - 1) = omega arith in ap (λ (c : ℕ). c * scale) e ∙ suc-mul (columns - 1) scale in
      same_test (ltb room corner) (rows_past every_bit first columns n room)
      (λ t.
      dot_true every_bit first columns n past (record {
        row = n - 1;
        column = columns - 1;
        down = scale - 1;
        right = scale - 1;
        row_in = omega arith;
        column_in = omega arith;
        down_in = omega arith;
        right_in = omega arith;
        is_set = refl;
        passes = le-leb room (0 + (n - 1) * stride * scale + last + (scale - 1) * stride + (scale - 1)) (omega (arith, column, ltb-true room corner t));
      }))
      (λ t.
      let d = dot_found every_bit first columns n past t in
      let there = 0 + d.row * stride * scale + d.column * scale + d.down * stride + d.right in
      let above : d.row * stride * scale ≤ (n - 1) * stride * scale = mul-le-mul_right scale (last_line d.row n stride d.row_in) in
      let before : suc d.column * scale ≤ columns * scale = mul-le-mul_right scale d.column_in in
      lt-ltb room corner
      (omega (arith, above, before, suc-mul d.column scale, last_line d.down scale stride d.down_in, d.right_in, leb-true room there d.passes)))

  pub corner_is : ltb room ((n - 1) * stride * scale + (scale - 1) * stride + columns * scale) ≡ rows_past every_bit (place_at p stride scale) columns n len
  corner_is = by_room every_bit p stride scale columns n len room (ltb room corner) room-is by_corner

-- where none would pass if every bit were set, no set one does
pub corner_free : (bit : ℕ → ℕ → Bool) (p stride scale columns n len : ℕ) (corner : Bool) → corner ≡ rows_past every_bit (place_at p stride scale) columns n len
    → corner ≡ false → rows_past bit (place_at p stride scale) columns n len ≡ false
unfolding rows_past every_bit
corner_free bit p stride scale columns n len corner is none =
    split (rows_past bit (place_at p stride scale) columns n len)
    (λ t.
    never (sym none ∙ is ∙ dot_moved stride scale columns n bit every_bit p p (λ j. leb len j) (λ j. leb len j) (λ r c h l set. refl) (λ k passes. passes) t))
    (λ t. t)

-- no pixel passes where there is no row, no column, or where a block has none
module _ (bit : ℕ → ℕ → Bool) (at : Place) (columns n len : ℕ) where
  pub no_row_past : n ≡ 0 → false ≡ rows_past bit at columns n len
  unfolding rows_past
  no_row_past e = sym (none_found bit at columns n (λ r k a h l m. omega arith) (λ j. leb len j))

  pub no_column_past : columns ≡ 0 → false ≡ rows_past bit at columns n len
  unfolding rows_past
  no_column_past e = sym (none_found bit at columns n (λ r k a h l m. omega arith) (λ j. leb len j))

  pub no_block_past : at.scale ≡ 0 → false ≡ rows_past bit at columns n len
  unfolding rows_past
  no_block_past e = sym (none_found bit at columns n (λ r k a h l m. omega arith) (λ j. leb len j))

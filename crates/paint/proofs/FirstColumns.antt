-- Which columns a byte keeps that is shifted down and up again: a search through all bytes, shifts and columns finds no exception.
use Prim.Native.Nat.{ℕ, ◌*◌, ◌-◌, ◌/◌, ◌%◌, ◌^◌, ◌≤◌, ◌<◌}
use mathlib.Core.Path.{◌≡◌, refl, sym, ap}
use mathlib.Core.Bool.{Bool, true, false, not, ◌&&◌, beq}
use native.Mathlib.Omega.{arith}
use lib.Dec.{ltb}
use borrow.Author.Tests.{lt-ltb}
use Rattle.bitmaps.specs.Paint.{some}
use Rattle.bitmaps.specs.Rows.{column}
use Rattle.bitmaps.proofs.Searching.{some_false}
use Rattle.paint.specs.Ink.{FirstColumns}

beq_same : (a b : Bool) → not (beq a b) ≡ false → a ≡ b
beq_same true true e = refl
beq_same true false e = e
beq_same false true e = sym e
beq_same false false e = refl

abbrev kept : ℕ → ℕ → ℕ
kept b n = b / 2 ^ n * 2 ^ n % 256

unfoldable differs : ℕ → ℕ → ℕ → Bool
differs b n k = not (beq (column (kept b n) k) (ltb k (8 - n) && column b k))

none_differs : some 256 (λ b. some 8 (λ n. some 8 (λ k. differs b n k))) ≡ false
unfolding some differs column
none_differs = refl

-- shifted by 8 - m, a byte keeps its first m columns
pub first_kept : (b m : ℕ) → m < 8 → b < 256 → 1 ≤ m → FirstColumns b m (b / 2 ^ (8 - m) * 2 ^ (8 - m) % 256)
unfolding differs
first_kept b m u h l = record {
  keeps =
      λ k v.
      let n = 8 - m in
      let shifts = some_false 256 (λ b. some 8 (λ n. some 8 (λ k. differs b n k))) none_differs b h in
      let columns = some_false 8 (λ n. some 8 (λ k. differs b n k)) shifts n (omega arith) in
      let back : 8 - n ≡ m = omega arith in
      rw back at (beq_same (column (kept b n) k) (ltb k (8 - n) && column b k) (some_false 8 (λ k. differs b n k) columns k v));
}

-- a byte has no column past the eighth
pub all_kept : (b m : ℕ) → 8 ≤ m → FirstColumns b m b
all_kept b m h = record { keeps = λ k v. sym (ap (λ (t : Bool). t && column b k) (lt-ltb k m (omega arith))) }

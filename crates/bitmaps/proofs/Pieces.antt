-- A search in pieces: what is found among the first numbers, and among those from there on.
use Prim.Native.Nat.{ℕ, zero, suc, ◌+◌, min}
use mathlib.Core.Path.{◌≡◌, sym, ap, ◌∙◌}
use mathlib.Core.Bool.{Bool, ◌&&◌, ◌||◌, or-false, or_assoc}
use native.Mathlib.Nat.{add-zero, add-suc}
use native.Mathlib.Omega.{arith}
use lib.Dec.{ltb}
use borrow.Author.Tests.{ltb-true, lt-ltb}
use Rattle.reads.proofs.Tests.{both}
use Rattle.bitmaps.specs.Paint.{some}
use Rattle.bitmaps.proofs.Searching.{and_true, same_test, some_true, some_witness}

-- what is found below m + n is found below m or among the n numbers from m on
pub some_pieces : (m n : ℕ) (f : ℕ → Bool) → some (m + n) f ≡ some m f || some n (λ k. f (m + k))
unfolding some
some_pieces m zero f = ap (λ (k : ℕ). some k f) (add-zero m) ∙ sym (or-false (some m f))
some_pieces m (suc n) f =
    ap (λ (k : ℕ). some k f) (add-suc m n) ∙ ap (λ (t : Bool). t || f (m + n)) (some_pieces m n f)
    ∙ or_assoc (some m f) (some n (λ k. f (m + k))) (f (m + n))

-- numbers that are tested to lie below m are searched up to m
pub some_cut : (n m : ℕ) (f : ℕ → Bool) → some n (λ k. ltb k m && f k) ≡ some (min n m) f
some_cut n m f =
    same_test (some n (λ k. ltb k m && f k)) (some (min n m) f)
    (λ e.
    let (k, h, t) = some_witness n (λ k. ltb k m && f k) e in
    let (below, passes) = both (ltb k m) (f k) t in
    some_true (min n m) f k (omega (arith, ltb-true k m below)) passes)
    (λ e.
    let (k, h, t) = some_witness (min n m) f e in
    some_true n (λ k. ltb k m && f k) k (omega arith) (and_true (ltb k m) (f k) (lt-ltb k m (omega arith)) t))

-- Whether bytes lie in a length: the test by subtraction is the test of the whole sum, and what its answer tells.
use Prim.Native.Nat.{ℕ, ◌+◌, ◌-◌, ◌≤◌, ◌<◌, ◌^◌, min}
use mathlib.Core.Path.{◌≡◌, sym, ◌∙◌}
use mathlib.Core.Bool.{Bool, true, false}
use mathlib.Core.List.{List}
use native.Mathlib.Omega.{arith}
use lib.ListN.{length, take}
use lib.Seq.{length-take-le}
use lib.Dec.{leb}
use mir.Syntax.{w64}
use mir.Val.{Fits}
use borrow.Author.Tests.{lt-leb, leb-true, leb-false}
use Rattle.reads.proofs.Tests.{same_leb}

module _ (len start offset size : ℕ) where
  pub start_past : len < start → false ≡ leb (start + offset + size) len
  start_past h = sym (lt-leb (start + offset + size) len (omega arith))

  module _ (h : start ≤ len) where
    pub size_past : len - start < size → false ≡ leb (start + offset + size) len
    size_past l = sym (lt-leb (start + offset + size) len (omega arith))

    pub offset_left : size ≤ len - start → leb offset (len - start - size) ≡ leb (start + offset + size) len
    offset_left l = same_leb offset (len - start - size) (start + offset + size) len (λ k. omega arith) (λ k. omega arith)

  module _ (lies : Bool) (lies-is : lies ≡ leb (start + offset + size) len) where
    module _ (t : lies ≡ true) where
      pub lies_inside : start + offset + size ≤ len
      lies_inside = leb-true (start + offset + size) len (sym lies-is ∙ t)

      pub sum_fits : len < 2 ^ 64 → Fits w64 (start + offset)
      sum_fits h = omega (arith, lies_inside)

-- so many bytes of the front are so many
pub counted : (n : ℕ) (s : List ℕ) → n ≤ length s → n ≡ length (take n s)
counted n s h = sym (length-take-le n s h)

-- a place cut at the length
module _ (len start offset : ℕ) (lies : Bool) (lies-is : lies ≡ leb (start + offset + 0) len) where
  pub reach_inside : lies ≡ true → start + offset ≡ min (start + offset) len
  reach_inside t = omega (arith, lies_inside len start offset 0 lies lies-is t)

  pub reach_past : lies ≡ false → len ≡ min (start + offset) len
  reach_past t = omega (arith, leb-false (start + offset + 0) len (sym lies-is ∙ t))

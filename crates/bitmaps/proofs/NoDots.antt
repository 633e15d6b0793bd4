-- Where nothing is coloured: rows of bits that have no pixel, and a buffer that ends before them.
use Prim.Native.Nat.{ℕ, ◌≤◌, ◌<◌}
use mathlib.Core.Path.{◌≡◌, sym}
use mathlib.Core.Bool.{Bool, false}
use mathlib.Core.List.{List}
use native.Mathlib.Omega.{arith}
use lib.Dec.{eqb}
use lib.ListN.{length}
use Rattle.reads.proofs.Tests.{split}
use Rattle.bitmaps.specs.Paint.{painted}
use Rattle.bitmaps.specs.Place.{Place}
use Rattle.bitmaps.specs.Dots.{some_dot}
use Rattle.bitmaps.proofs.Painting.{painted_none}
use Rattle.bitmaps.proofs.Pixels.{dot_found}
use Rattle.bitmaps.proofs.Shift.{none_before}

module _ (bit : ℕ → ℕ → Bool) (at : Place) (width n : ℕ) where
  -- no pixel passes where there is none
  pub none_found : ((r c a : ℕ) → r < n → c < width → a < at.scale → ⊥) → (test : ℕ → Bool) → some_dot bit at width n test ≡ false
  none_found none test =
      split (some_dot bit at width n test)
      (λ t. let d = dot_found bit at width n test t in
      absurd (none d.row d.column d.down d.row_in d.column_in d.down_in))
      (λ t. t)

  module _ (colour : ℕ) (old : List ℕ) where
    abbrev rule : ℕ → Bool
    rule i = some_dot bit at width n (λ j. eqb i j)

    pub no_dots : ((r c a : ℕ) → r < n → c < width → a < at.scale → ⊥) → old ≡ painted rule colour old
    no_dots none = sym (painted_none rule colour old (λ i h. none_found none (λ j. eqb i j)))

    pub dots_behind : length old ≤ at.p → old ≡ painted rule colour old
    dots_behind h = sym (painted_none rule colour old (λ i l. none_before at.stride at.scale width n bit at.p i (omega arith)))

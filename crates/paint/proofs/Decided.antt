-- What is known once a row and a column are to be drawn: the place lies in the buffer, and a block has pixels.
use Prim.Native.Nat.{ℕ, ◌*◌, ◌≤◌, ◌<◌, ◌^◌}
use mathlib.Core.Path.{◌≡◌}
use mathlib.Core.Bool.{false, ◌||◌}
use native.Mathlib.Omega.{arith}
use lib.Dec.{eqb, leb}
use mir.Syntax.{w64}
use mir.Val.{Fits}
use borrow.Author.Tests.{leb-true, leb-false, eqb-true, eqb-false}
use Rattle.reads.proofs.Tests.{split}
use Rattle.bitmaps.specs.Place.{place_at}
use Rattle.bitmaps.specs.Cut.{drawn_rows}
use Rattle.bitmaps.proofs.CutRule.{drawn_none, drawn_no_scale}
use Rattle.bitmaps.proofs.LentRows.{some_there}

module _ (n width : ℕ) (some : eqb n 0 || eqb width 0 ≡ false) where
  pub some_rows : 1 ≤ n
  some_rows = (some_there n width some).0

  module _ (len p stride scale height : ℕ) (n-is : n ≡ drawn_rows len (place_at p stride scale) height) where
    pub place_inside : p < len
    place_inside =
        split (leb len p) (λ t. absurd (omega (arith, some_rows, n-is, drawn_none len (place_at p stride scale) height (leb-true len p t))))
        (λ t. leb-false len p t)

    pub some_scale : 1 ≤ scale
    some_scale =
        split (eqb scale 0) (λ t. absurd (omega (arith, some_rows, n-is, drawn_no_scale len (place_at p stride scale) height (eqb-true scale 0 t))))
        (λ t. omega (arith, eqb-false scale 0 t))

    -- so that it is lent from there on
    pub place_reached : p ≤ len
    place_reached = omega (arith, place_inside)

    pub place_bytes_fit : len * 4 < 2 ^ 63 → Fits w64 (p * 4)
    place_bytes_fit l = omega (arith, place_inside)

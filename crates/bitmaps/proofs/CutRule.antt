-- What the cut rule keeps: how many of a glyph's rows are drawn into the buffer that is left from its place on.
use Prim.Native.Nat.{ℕ, ◌+◌, ◌-◌, ◌*◌, ◌/◌, ◌≤◌}
use mathlib.Core.Path.{◌≡◌}
use native.Mathlib.Omega.{arith}
use native.Mathlib.Nat.{le-div_iff_mul-le, div-add-mod', mod-lt, div-mul-le_self, mul-le-mul_right, le_trans, zero-div, div-zero, mul-zero, min-eq_left}
use Rattle.bitmaps.specs.Place.{Place}
use Rattle.bitmaps.specs.Cut.{lines_from, drawn_rows}

module _ (len : ℕ) (at : Place) (height : ℕ) where
  -- no row is made up
  pub drawn_within : drawn_rows len at height ≤ height
  drawn_within = omega arith

  -- no row is lost where whole groups of `scale` lines hold them all
  pub drawn_all : height ≤ lines_from len at / at.scale * at.scale → drawn_rows len at height ≡ height
  drawn_all h = min-eq_left h

  -- nor where the lines that the buffer has are as many as the rows and a group but one
  pub drawn_room : 1 ≤ at.stride → 1 ≤ at.scale → (height + (at.scale - 1)) * at.stride ≤ len - at.p → drawn_rows len at height ≡ height
  drawn_room a b h =
      let lines : height + (at.scale - 1) ≤ lines_from len at = (le-div_iff_mul-le a).1 h in
      drawn_all (omega (arith, lines, div-add-mod' (lines_from len at) at.scale, mod-lt (lines_from len at) {m = at.scale} b))

  -- a line that the buffer has only in part does not count
  pub drawn_lines : drawn_rows len at height * at.stride ≤ len - at.p
  drawn_lines =
      let lines : lines_from len at / at.scale * at.scale ≤ lines_from len at = div-mul-le_self _ _ in
      let drawn : drawn_rows len at height ≤ lines_from len at = omega arith in
      le_trans (mul-le-mul_right at.stride drawn) (div-mul-le_self _ _)

  -- nothing is drawn from the buffer's end on
  pub drawn_none : len ≤ at.p → drawn_rows len at height ≡ 0
  drawn_none h =
      let none : len - at.p ≡ 0 = omega arith in
      rw (none, zero-div at.stride, zero-div at.scale) (omega arith)

  -- nothing is drawn in lines or blocks of no pixels
  pub drawn_no_stride : at.stride ≡ 0 → drawn_rows len at height ≡ 0
  drawn_no_stride e = rw (e, div-zero (len - at.p), zero-div at.scale) (omega arith)

  pub drawn_no_scale : at.scale ≡ 0 → drawn_rows len at height ≡ 0
  drawn_no_scale e = rw (e, mul-zero (lines_from len at / 0)) (omega arith)

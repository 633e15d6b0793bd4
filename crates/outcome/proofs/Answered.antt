-- What the answer of a drawing tells: where there are rows, 14 and 16 did not refuse them.
use Prim.Native.Nat.{ℕ}
use mathlib.Core.Path.{◌≡◌, refl}
use mathlib.Core.Bool.{Bool, true, false, cond}
use mathlib.Core.List.{List}
use native.Mathlib.Omega.{arith}
use Rattle.reads.specs.Said.{refusal}
use Rattle.reads.specs.declared.Refusal.{Refusal}
use Rattle.tables.specs.declared.BitmapData.{BitmapData}
use Rattle.bitmaps.specs.Place.{Place}
use Rattle.bitmaps.specs.Cut.{drawn_rows}
use Rattle.bitmaps.specs.Picture.{unreadable, rows_short, pixel_past}
use Rattle.bitmaps.specs.Draw.{rows_of, shown_at}
use Rattle.bitmaps.specs.Unpack.{whole_columns, unscaled, unpacked_at}
use Rattle.bitmaps.specs.declared.Rows.{Rows}
use Rattle.bitmaps.specs.declared.Drawn.{Drawn}
use Rattle.bitmaps.specs.declared.Unpacked.{Unpacked}

-- a glyph's rows are there, and their pixels have room
pub record Drawable (s : List ℕ) (b : BitmapData) (g width columns : ℕ) (at : Place) (n len : ℕ) : Type 0 where
  pub rows : rows_short s b g width n ≡ false
  pub pixels : pixel_past s b g width columns at n len ≡ false

-- of three tests in their order none passed, where the answer is no refusal
none_passed : {A : Type 0} (refused : Refusal → A) (x y z : Bool) (i j k : Refusal) (all r : A) → ((f : Refusal) → refused f ≡ r → ⊥)
    → cond x (refused i) (cond y (refused j) (cond z (refused k) all)) ≡ r → (all ≡ r) × (y ≡ false) × (z ≡ false)
none_passed refused true y z i j k all r other e = absurd (other i e)
none_passed refused false true z i j k all r other e = absurd (other j e)
none_passed refused false false true i j k all r other e = absurd (other k e)
none_passed refused false false false i j k all r other e = (e, refl, refl)

pub is_drawn : (r : Rows) (f : Refusal) → Drawn.Refused f ≡ Drawn.Rows r → ⊥
is_drawn r f e = let z : ◌≡◌ {A = ℕ} 0 1 = cc in omega arith

pub is_unpacked : (n : ℕ) (f : Refusal) → Unpacked.Refused f ≡ Unpacked.Rows n → ⊥
is_unpacked n f e = let z : ◌≡◌ {A = ℕ} 0 1 = cc in omega arith

module _ (s : List ℕ) (b : BitmapData) (g width height len : ℕ) where
  pub shown_rows : (at : Place) (r : Rows) → shown_at s b g width height len at ≡ Drawn.Rows r
      → (r ≡ rows_of height (drawn_rows len at height)) × Drawable s b g width width at r.drawn len
  unfolding shown_at
  shown_rows at r e =
      let n = drawn_rows len at height in
      let (all, there, room) =
      none_passed Drawn.Refused (unreadable b) (rows_short s b g width n) (pixel_past s b g width width at n len)
      (refusal 13 0) (refusal 14 0) (refusal 16 0) (Drawn.Rows (rows_of height n)) (Drawn.Rows r) (is_drawn r) e
      in
      let is : r ≡ rows_of height n = cc in
      (is, rw is (record { rows = there; pixels = room }))

  pub unpacked_rows : (p stride n : ℕ) → unpacked_at s b g width height len p stride ≡ Unpacked.Rows n
      → (n ≡ height) × Drawable s b g width (whole_columns width) (unscaled p stride) n len
  unfolding unpacked_at
  unpacked_rows p stride n e =
      let (all, there, room) =
      none_passed Unpacked.Refused (unreadable b) (rows_short s b g width height) (pixel_past s b g width (whole_columns width) (unscaled p stride) height len)
      (refusal 13 0) (refusal 14 0) (refusal 16 0) (Unpacked.Rows height) (Unpacked.Rows n) (is_unpacked n) e
      in
      let is : n ≡ height = cc in
      (is, rw is (record { rows = there; pixels = room }))

-- "14 is tested over the drawn rows, then 16": where both would refuse, 14 does. Unpacking has the same order over all rows.
use Prim.Native.Nat.{ℕ}
use mathlib.Core.Path.{◌≡◌, refl}
use mathlib.Core.Bool.{true, false}
use mathlib.Core.List.{List}
use Rattle.reads.specs.Said.{refusal}
use Rattle.tables.specs.declared.BitmapData.{BitmapData}
use Rattle.bitmaps.specs.Place.{Place}
use Rattle.bitmaps.specs.Cut.{drawn_rows}
use Rattle.bitmaps.specs.Picture.{unreadable, rows_short}
use Rattle.bitmaps.specs.Draw.{shown_at}
use Rattle.bitmaps.specs.Unpack.{unpacked_at}
use Rattle.bitmaps.specs.declared.Drawn.{Drawn}
use Rattle.bitmaps.specs.declared.Unpacked.{Unpacked}

pub fourteen_first : (s : List ℕ) (b : BitmapData) (g width height len : ℕ) (at : Place)
    → unreadable b ≡ false → rows_short s b g width (drawn_rows len at height) ≡ true
    → shown_at s b g width height len at ≡ Drawn.Refused (refusal 14 0)
unfolding shown_at
fourteen_first s b g width height len at e f = rw (e, f) refl

pub fourteen_first_unpacked : (s : List ℕ) (b : BitmapData) (g width height len p stride : ℕ)
    → unreadable b ≡ false → rows_short s b g width height ≡ true → unpacked_at s b g width height len p stride ≡ Unpacked.Refused (refusal 14 0)
unfolding unpacked_at
fourteen_first_unpacked s b g width height len p stride e f = rw (e, f) refl

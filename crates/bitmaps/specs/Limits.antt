-- The limits of a caller's arguments: past them a call answers 15, "an argument other than the text outside its limits".
use Rattle.std.specs.Prelude.{ℕ, Bool, ◌&&◌, leb}
use Rattle.reads.specs.Range.{between}
use Rattle.bitmaps.specs.Place.{Place}

-- "stride 1 to 65,535; scale 1 to 64; start at most 2,147,483,647"
abbrev pub ok_place : Place → Bool
ok_place at = leb at.p 2147483647 && between 1 65535 at.stride && between 1 64 at.scale

-- "each given width, height and pad at most 32,767"
abbrev pub ok_pair : ℕ → ℕ → Bool
ok_pair a b = leb a 32767 && leb b 32767

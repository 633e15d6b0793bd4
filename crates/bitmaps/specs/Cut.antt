-- The cut at the buffer's end. From document 01: "With L the buffer length, m is (L - p) div stride, or 0 if p > L. Rows drawn = the
-- smaller of height and (m div scale) × scale."
use Rattle.std.specs.Prelude.{ℕ, ◌-◌, ◌*◌, ◌/◌, min}
use Rattle.bitmaps.specs.Place.{Place}

-- m: the whole lines of the buffer from p on; the difference of natural numbers is 0 where p > L
abbrev pub lines_from : ℕ → Place → ℕ
lines_from len at = (len - at.p) / at.stride

-- rows drawn
abbrev pub drawn_rows : ℕ → Place → ℕ → ℕ
drawn_rows len at height = min height (lines_from len at / at.scale * at.scale)

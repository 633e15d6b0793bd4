-- Where a drawing happens. From document 01: "Drawing happens at p"; "p + r × stride × scale + c × scale + a × stride + b for a, b below
-- scale".
use Rattle.std.specs.Prelude.{ℕ, ◌+◌, ◌*◌}

-- the pixel p that it begins at, how many pixels a line of the buffer has, and how many a bit has on a side
pub record Place : Type 0 where
  pub p : ℕ
  pub stride : ℕ
  pub scale : ℕ

abbrev pub place_at : ℕ → ℕ → ℕ → Place
place_at p stride scale = record { p = p; stride = stride; scale = scale }

-- where row r begins: "+ r × stride × scale"
abbrev pub row_place : Place → ℕ → Place
row_place at r = place_at (at.p + r * at.stride * at.scale) at.stride at.scale

-- where column c of a row begins: "+ c × scale"
abbrev pub column_place : Place → ℕ → Place
column_place at c = place_at (at.p + c * at.scale) at.stride at.scale

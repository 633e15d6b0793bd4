-- "every whole row byte, columns past the width included": the columns that unpacking stores are those of whole bytes, and of no byte
-- more than the width needs.
use Prim.Native.Nat.{ℕ, ◌+◌, ◌%◌, ◌≤◌, ◌<◌}
use mathlib.Core.Path.{◌≡◌}
use native.Mathlib.Omega.{arith}
use Rattle.bitmaps.specs.Unpack.{whole_columns}

pub whole_bytes : (width : ℕ) → (whole_columns width % 8 ≡ 0) × (width ≤ whole_columns width) × (whole_columns width < width + 8)
whole_bytes width = (omega arith, omega arith, omega arith)

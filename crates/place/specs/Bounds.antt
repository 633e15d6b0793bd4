-- The bounds of all glyphs. From document 01: "The bounds themselves (for `dimensions` and texts): ascent and width at least 0, the
-- sum 0 to 32,767"; else 11, "metrics out of range".
use Rattle.std.specs.Prelude.{ℕ, Bool, cond, ◌&&◌, List, [], ◌∷◌, ℤ, pos, nat_abs, ◌+ℤ◌}
use Rattle.std.specs.Int.Signed.{non_neg, le_z}
use Rattle.reads.specs.Said.{Said, refusal, says, refuses}
use Rattle.tables.specs.Fits.{tested}
use Rattle.tables.specs.declared.MetricsUnpacked.{MetricsUnpacked}
use Rattle.tables.specs.declared.Record.{Record}
use Rattle.place.specs.declared.Extent.{Extent}
use Rattle.place.specs.declared.Sized.{Sized}

-- ascent + descent, in whole numbers
abbrev pub height_of : MetricsUnpacked → ℤ
height_of m = m.ascent +ℤ m.descent

-- "0 to 32,767"
abbrev pub in_range : ℤ → Bool
in_range z = non_neg z && le_z z (pos 32767)

-- the maximum bounds
abbrev pub bounds_of : Record → MetricsUnpacked
bounds_of rec = rec.accel.maxbounds

-- "ascent and width at least 0, the sum 0 to 32,767"
unfoldable pub bounds_hold : MetricsUnpacked → Bool
bounds_hold m = non_neg m.ascent && non_neg m.width && in_range (height_of m)

-- of bounds that hold: the height, then the width
abbrev pub dimensions_of : MetricsUnpacked → Extent
dimensions_of m = record { height = nat_abs (height_of m); width = nat_abs m.width }

-- the bounds' dimensions, or 11
unfoldable pub bounds_sized : MetricsUnpacked → Sized
bounds_sized m = cond (bounds_hold m) (Sized.Dimensions (dimensions_of m)) (Sized.Refused (refusal 11 0))

-- `dimensions`: 6, 11
unfoldable pub dimensions : List ℕ → Record → Sized
dimensions s rec = tested Sized.Refused s rec (bounds_sized (bounds_of rec))

abbrev pub said_sized : Sized → Said
said_sized (Sized.Dimensions d) = says (pos d.height ∷ pos d.width ∷ [])
said_sized (Sized.Refused r) = refuses r

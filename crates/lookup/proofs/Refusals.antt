-- The number that a code without a glyph is refused with: 9.
use Prim.Native.Nat.{ℕ, ◌+◌, ◌*◌}
use mathlib.Core.Path.{◌≡◌, refl}
use mathlib.Core.List.{List, [], ◌∷◌}
use lib.Dec.{eqb}
use Rattle.reads.specs.Num.{u16_at}
use Rattle.reads.specs.Said.{NumberedBy}
use Rattle.reads.specs.declared.Refusal.{Refusal}
use Rattle.reads.proofs.Numbers.{has_values, has_number, whichever, the_one}
use Rattle.tables.specs.declared.EncodingData.{EncodingData}
use Rattle.modes.specs.declared.Mode.{Mode}
use Rattle.lookup.specs.Lookup.{slot_of, glyph_at, glyph_of, said_found}
use Rattle.lookup.specs.Served.{the_default, supplied_by, stand_in, or_else, served, said_served}
use Rattle.lookup.specs.declared.Found.{Found}
use Rattle.lookup.specs.declared.Slot.{Slot}
use Rattle.lookup.specs.declared.Supplier.{Supplier}

module _ (s : List ℕ) (c : EncodingData) (code : ℕ) where
  pub glyph_of_refusals : NumberedBy (9 ∷ []) (said_found (glyph_of s c code))
  unfolding glyph_of
  glyph_of_refusals = by (slot_of c code) where
    by : (slot : Slot) → NumberedBy (9 ∷ []) (said_found (glyph_at s c slot))
    by (Slot.At i) = whichever said_found (eqb (u16_at c.big s (c.entries + 2 * i)) 65535) (has_number refl) has_values
    by Slot.Nothing = has_number refl

  pub no_glyph_nine : (r : Refusal) → glyph_of s c code ≡ Found.Refused r → r.number ≡ 9
  no_glyph_nine r e = the_one r.number 9 (rw e at glyph_of_refusals).is

module _ (s : List ℕ) (c : EncodingData) where
  pub stand_in_refusals : (mode : Mode) → NumberedBy (9 ∷ []) (said_served (stand_in s c mode))
  unfolding stand_in
  stand_in_refusals mode =
      whichever said_served mode.default (passed_on (the_default c) (glyph_of s c c.default) (glyph_of_refusals s c c.default)) (has_number refl)
    where
      passed_on : (by : Supplier) (x : Found) → NumberedBy (9 ∷ []) (said_found x) → NumberedBy (9 ∷ []) (said_served (supplied_by by x))
      passed_on by (Found.Glyph g) h = has_values
      passed_on by (Found.Refused r) h = h

  pub serve_refusals : (mode : Mode) (code : ℕ) → NumberedBy (9 ∷ []) (said_served (served s c mode code))
  unfolding served
  serve_refusals mode code = by (glyph_of s c code) where
    by : (x : Found) → NumberedBy (9 ∷ []) (said_served (or_else code x (stand_in s c mode)))
    by (Found.Glyph g) = has_values
    by (Found.Refused r) = stand_in_refusals mode

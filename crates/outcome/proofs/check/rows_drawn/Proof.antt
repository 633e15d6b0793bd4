use Prim.Native.Nat.{ℕ, ◌+◌, ◌-◌, ◌*◌, ◌/◌, ◌≤◌, ◌<◌, ◌^◌}
use mathlib.Core.Path.{◌≡◌, sym}
use native.Mathlib.Nat.{div-mul-le_self, div-le_self}
use native.Mathlib.Omega.{arith}
use mir.Syntax.{w64}
use mir.Val.{Fits}
use Rattle.bitmaps.specs.Place.{place_at}
use Rattle.bitmaps.specs.Cut.{drawn_rows}
use Rattle.bitmaps.proofs.CutRule.{drawn_room, drawn_no_stride, drawn_no_scale}
use Rattle.outcome.proofs.Sizes.{within}
use borrow.Author.Rules.{rules}
use Rattle.outcome.proofs.check.rows_drawn.Statement.{statement}
use Rattle.outcome.proofs.check.rows_drawn.Tie as tie

-- lines or blocks of no pixels; room for the rows and a group but one; else as many as whole groups hold

module _ (len p stride scale height : ℕ) where
  no-stride : stride ≡ 0 → 0 ≡ drawn_rows len (place_at p stride scale) height
  no-stride e = sym (drawn_no_stride len (place_at p stride scale) height e)

  no-scale : scale ≡ 0 → 0 ≡ drawn_rows len (place_at p stride scale) height
  no-scale e = sym (drawn_no_scale len (place_at p stride scale) height e)

  room-needed : height < 2 ^ 16 → scale < 2 ^ 8 → stride < 2 ^ 16 → Fits w64 ((height + (scale - 1)) * stride)
  room-needed h k l = omega (arith, within (height + (scale - 1)) 65789 stride 65535 (omega arith) (omega arith))

  module _ (room : ℕ) (room-is : room ≡ len - p) (lines : stride ≡ 0 → ⊥) (blocks : scale ≡ 0 → ⊥) where
    room_enough : (height + (scale - 1)) * stride ≤ room → height ≡ drawn_rows len (place_at p stride scale) height
    room_enough h = sym (drawn_room len (place_at p stride scale) height (omega arith) (omega arith) (rw (← room-is) h))

    whole-fits : room < 2 ^ 64 → Fits w64 (room / stride / scale * scale)
    whole-fits h = omega (arith, div-mul-le_self (room / stride) scale, div-le_self room stride)

    all_rows : height ≤ room / stride / scale * scale → height ≡ drawn_rows len (place_at p stride scale) height
    all_rows h = rw (← room-is) (omega arith)

    some_rows : room / stride / scale * scale < height → room / stride / scale * scale ≡ drawn_rows len (place_at p stride scale) height
    some_rows h = rw (← room-is) (omega arith)

pub rows_drawn_spec : {M : Type 1} → statement M
rows_drawn_spec =
    tie.close
    (tie.spec
    (λ c. search no-stride)  -- returns
    (λ c. search no-scale)  -- returns-2
    (λ c κs. search rules)  -- room_from-requires
    (λ c. search rules)  -- sub-if3
    (λ c. search rules)  -- add-if3
    (λ c. search room-needed)  -- mul-if3
    (λ c. search room_enough)  -- returns-3
    (λ c. search rules)  -- div-whole
    (λ c. search rules)  -- div-whole-2
    (λ c. search whole-fits)  -- mul-whole
    (λ c. search all_rows)  -- returns-4
    (λ c. search rules)  -- cast-result
    (λ c. search some_rows))  -- returns-5

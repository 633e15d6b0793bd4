-- Within the limits a stride is not 0, and a glyph's end in its line is small.
use Prim.Native.Nat.{ℕ, ◌+◌, ◌*◌, ◌%◌, ◌≤◌, ◌<◌}
use mathlib.Core.Path.{◌≡◌, sym, ◌∙◌}
use mathlib.Core.Bool.{Bool, true}
use native.Mathlib.Nat.{mod-lt}
use native.Mathlib.Omega.{arith}
use mir.Syntax.{w64}
use mir.Val.{Fits}
use Rattle.bitmaps.specs.Place.{place_at}
use Rattle.bitmaps.specs.Limits.{ok_place}
use Rattle.outcome.proofs.Sizes.{within}
use Rattle.outcome.proofs.WithinLimits.{place_limits}
use borrow.Author.Rules.{rules}
use Rattle.reasons.proofs.picture.passes_line.Statement.{statement}
use Rattle.reasons.proofs.picture.passes_line.Tie as tie

module _ (start stride scale : ℕ) (ok : Bool) (holds : ok ≡ true) (is : ok ≡ ok_place (place_at start stride scale)) where
  limits : (1 ≤ stride) × (stride ≤ 65535) × (scale ≤ 64)
  limits = let (_, some, line, _, side) = place_limits start stride scale (sym is ∙ holds) in (some, line, side)

  some-line : 0 < stride
  some-line = omega (arith, limits)

  module _ (width : ℕ) (narrow : width < 65536) where
    columns : width * scale ≤ 65535 * 64
    columns = within width 65535 scale 64 (omega arith) (omega (arith, limits))

    columns-fit : Fits w64 (width * scale)
    columns-fit = omega (arith, columns)

    end_fits : (first : ℕ) → Fits w64 (first % stride + width * scale)
    end_fits first = omega (arith, columns, limits, mod-lt first some-line)

pub passes_line_spec : {M : Type 1} → statement M
passes_line_spec =
    tie.close
    (tie.spec
    (λ c κs. search rules)  -- ok_place-requires
    (λ c. search some-line)  -- rem-result
    (λ c. search columns-fit)  -- mul-result
    (λ c. search end_fits)  -- add-result
    (λ c. search rules)  -- returns
    (λ c. search rules))  -- returns-2

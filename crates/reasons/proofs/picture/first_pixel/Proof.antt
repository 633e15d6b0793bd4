-- A stride and a scale within their limits have 16 bits and 8.
use Prim.Native.Nat.{ℕ}
use mathlib.Core.Path.{◌≡◌, sym, ◌∙◌}
use mathlib.Core.Bool.{Bool, true}
use native.Mathlib.Omega.{arith}
use mir.Syntax.{w8, w16}
use mir.Val.{Fits}
use Rattle.bitmaps.specs.Place.{place_at}
use Rattle.bitmaps.specs.Limits.{ok_place}
use Rattle.outcome.proofs.WithinLimits.{place_limits}
use borrow.Author.Rules.{rules}
use Rattle.reasons.proofs.picture.first_pixel.Statement.{statement}
use Rattle.reasons.proofs.picture.first_pixel.Tie as tie

module _ (start stride scale : ℕ) (ok : Bool) (holds : ok ≡ true) (is : ok ≡ ok_place (place_at start stride scale)) where
  stride_fits : Fits w16 stride
  stride_fits = omega (arith, place_limits start stride scale (sym is ∙ holds))

  scale_fits : Fits w8 scale
  scale_fits = omega (arith, place_limits start stride scale (sym is ∙ holds))

pub first_pixel_spec : {M : Type 1} → statement M
first_pixel_spec =
    tie.close
    (tie.spec
    (λ c κs. search rules)  -- ok_place-requires
    (λ c. search stride_fits)  -- cast-result
    (λ c. search scale_fits)  -- cast-result-2
    (λ c κs. search rules)  -- place_of-requires
    (λ c. search rules)  -- returns
    (λ c. search rules))  -- returns-2

-- A page's line length in a known mode and in an unknown one, from what a test of the mode found.
use mathlib.Core.Path.{◌≡◌, refl}
use mathlib.Core.Bool.{Bool, true, false}
use Rattle.modes.specs.Modes.{is_known}
use Rattle.thalluskin.specs.Pages.{stride_of}
use Rattle.thalluskin.specs.declared.PageNumbers.{PageNumbers}

module _ (page : PageNumbers) (is_Known : Bool) (Known-is : is_Known ≡ is_known page.mode) where
  pub stride_known : is_Known ≡ true → page.stride ≡ stride_of page
  unfolding stride_of
  stride_known e = rw (← Known-is, e) refl

  pub stride_unknown : is_Known ≡ false → 0 ≡ stride_of page
  unfolding stride_of
  stride_unknown e = rw (← Known-is, e) refl

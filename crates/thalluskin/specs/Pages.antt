-- A page in a mode. A number for a mode that is not there is "an argument other than the text outside its limits", 15.
use Rattle.std.specs.Prelude.{ℕ, cond}
use Rattle.modes.specs.Modes.{is_known, mode_of}
use Rattle.modes.specs.declared.Mode.{Mode}
use Rattle.bitmaps.specs.Place.{Place, place_at}
use Rattle.thalluskin.specs.declared.PageNumbers.{PageNumbers}

-- the mode that the page's number stands for
abbrev pub mode_in : PageNumbers → Mode
mode_in page = mode_of page.mode

-- the line length that counts: in an unknown mode a page has no lines, and a call that draws on it is 6 or 15
unfoldable pub stride_of : PageNumbers → ℕ
stride_of page = cond (is_known page.mode) page.stride 0

-- where a drawing with these numbers happens
abbrev pub place_of : PageNumbers → Place
place_of page = place_at page.start (stride_of page) page.scale

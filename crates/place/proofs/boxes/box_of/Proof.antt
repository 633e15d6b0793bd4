-- A glyph that is placeable has natural numbers for its box, so every cast keeps its number.
use borrow.Author.Rules.{rules}
use Rattle.place.proofs.Placing.{box_width, box_height, box_top, box_ascent, box_left, box_below, box_is}
use Rattle.place.proofs.boxes.box_of.Statement.{statement}
use Rattle.place.proofs.boxes.box_of.Tie as tie

pub box_of_spec : {M : Type 1} → statement M
box_of_spec =
    tie.close
    (tie.spec
    (λ c κs. search box_width)  -- natural_i16-requires
    (λ c κs. search rules)  -- height_of-requires
    (λ c κs. search box_height)  -- natural_i32-requires
    (λ c κs. search box_top)  -- natural_i16-requires-2
    (λ c κs. search box_ascent)  -- natural_i16-requires-3
    (λ c. search box_below)  -- sub-pad-top
    (λ c κs. search box_left)  -- natural_i16-requires-4
    (λ c. search box_is))  -- returns

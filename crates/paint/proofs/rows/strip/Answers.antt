use Rattle.bitmaps.proofs.PictureRows.{no_rows, all_rows}
use Rattle.outcome.proofs.Sizes.{row_line, row_place_lem, row_place_on}
use Rattle.paint.proofs.CutBytes.{held_there, held_fits, step_fits, cut_room, cut_more, blank_more}
use Rattle.paint.proofs.rows.strip.Goals as goal
use Rattle.paint.proofs.rows.strip.Goals.{then-held-ne0, else-held-ne0}

pub loop-r-init : goal.loop-r-init
loop-r-init c = search no_rows

pub overflow_mul-held : goal.overflow_mul-held
overflow_mul-held c = search step_fits

pub overflow_add-held : goal.overflow_add-held
overflow_add-held c = search held_fits

pub bounds-s-first : goal.bounds-s-first
bounds-s-first c = search held_there

pub overflow_mul-r : goal.overflow_mul-r
overflow_mul-r c = search row_line

pub overflow_mul-r-then-held-ne0 : goal.overflow_mul-r-then-held-ne0
overflow_mul-r-then-held-ne0 c = search row_place_lem

pub overflow_add-at : goal.overflow_add-at
overflow_add-at c = search row_place_on

pub byte_columns-requires : goal.byte_columns-requires
byte_columns-requires c = search cut_room

pub loop-r-preserved : goal.loop-r-preserved
loop-r-preserved c = elim c.if-held-ne0.branch [ then-held-ne0 w ↦ search cut_more | else-held-ne0 w ↦ search blank_more ]

pub returns : goal.returns
returns c = search all_rows

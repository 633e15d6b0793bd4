use Rattle.outcome.proofs.Sizes.{row_line}
use Rattle.unpack.proofs.StripRows.{row_at, no_row, every_row, byte_there, next_fits, blank_done, byte_room, byte_done}
use Rattle.unpack.proofs.strip.Goals as goal
use Rattle.unpack.proofs.strip.Goals.{then-held-ne0, else-held-ne0}

pub loop-r-init : goal.loop-r-init
loop-r-init c = search no_row

pub bounds-s-k : goal.bounds-s-k
bounds-s-k c = search byte_there

pub overflow_mul-r : goal.overflow_mul-r
overflow_mul-r c = search row_line

pub overflow_add-at : goal.overflow_add-at
overflow_add-at c = search row_at

pub unpack_byte-requires : goal.unpack_byte-requires
unpack_byte-requires c = search byte_room

pub overflow_add-k : goal.overflow_add-k
overflow_add-k c = search next_fits

pub loop-r-preserved : goal.loop-r-preserved
loop-r-preserved c = elim c.if-held-ne0.branch [ then-held-ne0 w ↦ search byte_done | else-held-ne0 w ↦ search blank_done ]

pub returns : goal.returns
returns c = search every_row

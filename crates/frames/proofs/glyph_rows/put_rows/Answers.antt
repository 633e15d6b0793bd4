use Rattle.frames.specs.Hex.{hex_all}
use Rattle.frames.specs.Frames.{rows_from}
use Rattle.frames.proofs.Chain.{nothing}
use Rattle.frames.proofs.Writing.{rows_space, rows_turn}
use Rattle.frames.proofs.glyph_rows.put_rows.Goals as goal

pub loop-k-init : goal.loop-k-init
unfolding hex_all rows_from
loop-k-init c = nothing _ _

pub put_row-requires : goal.put_row-requires
put_row-requires c = rows_space _ _ _ _ _ _ _ _ c.loop-k.invariant _ c.row_bytes-count.ensures c.loop-k-test.true c.requires

pub loop-k-preserved : goal.loop-k-preserved
loop-k-preserved c =
    rows_turn _ _ _ _ _ _ _ _ c.loop-k.invariant _ _ _ _ _ c.row_bytes-count.ensures c.row_stride-stride.ensures c.offset_of-first.ensures c.put_row.ensures

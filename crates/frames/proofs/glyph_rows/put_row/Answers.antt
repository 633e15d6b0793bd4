use Rattle.frames.specs.Hex.{hex_all}
use Rattle.frames.specs.Frames.{row_from}
use Rattle.frames.proofs.Chain.{nothing}
use Rattle.frames.proofs.Writing.{row_space, row_turn}
use Rattle.frames.proofs.glyph_rows.put_row.Goals as goal

pub loop-j-init : goal.loop-j-init
unfolding hex_all row_from
loop-j-init c = nothing _ _

pub byte-requires : goal.byte-requires
byte-requires c = row_space _ _ _ _ _ _ _ _ c.loop-j.invariant _ c.loop-j-test.true c.requires

pub loop-j-preserved : goal.loop-j-preserved
loop-j-preserved c = row_turn _ _ _ _ _ _ _ _ c.loop-j.invariant _ _ _ c.row_byte.ensures c.byte.ensures

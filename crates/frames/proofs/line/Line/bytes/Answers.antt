use Rattle.frames.specs.Hex.{hex_all}
use Rattle.frames.proofs.Chain.{nothing}
use Rattle.frames.proofs.Writing.{bytes_room, bytes_turn}
use Rattle.frames.proofs.line.Line.bytes.Goals as goal

pub loop-b-init : goal.loop-b-init
unfolding hex_all
loop-b-init c = nothing _ _

pub byte-requires : goal.byte-requires
byte-requires c = bytes_room _ _ _ _ _ _ c.loop-b.invariant c.loop-b-test.true c.requires

pub loop-b-preserved : goal.loop-b-preserved
loop-b-preserved c = bytes_turn _ _ _ _ _ _ c.loop-b.invariant c.loop-b-test.true _ _ c.byte.ensures

use Prim.Native.Nat.{◌-◌, min}
use Rattle.bitmaps.specs.Ink.{byte_bits}
use Rattle.bitmaps.proofs.PictureRows.{Rowed}
use Rattle.paint.proofs.rows.strip.Given as goal

abbrev pub invariant-loop-r : goal.invariant-loop-r
invariant-loop-r l = Rowed (byte_bits l.s l.order l.first l.step) l.at l.stride l.scale (min 8 l.m) l.n l.colour l.initial.buf l.buf l.r

abbrev pub decreases-loop-r : goal.decreases-loop-r
decreases-loop-r l = l.n - l.r

use Prim.Native.Nat.{◌-◌}
use Rattle.unpack.proofs.StripRows.{Unpacking}
use Rattle.unpack.proofs.strip.Given as goal

abbrev pub invariant-loop-r : goal.invariant-loop-r
invariant-loop-r l = Unpacking l.s l.order l.first l.step l.n l.at l.stride l.initial.buf l.buf l.r l.k

abbrev pub decreases-loop-r : goal.decreases-loop-r
decreases-loop-r l = l.n - l.r

use Rattle.console.proofs.Filling.{Filling}
use Rattle.console.proofs.buffers.fill_bytes.Given as goal

abbrev pub invariant-loop-i : goal.invariant-loop-i
invariant-loop-i l = Filling l.initial.buf l.buf l.i

use lib.ListN.{take}
use Rattle.frames.specs.Hex.{hex_all}
use Rattle.frames.specs.Wrote.{Wrote}
use Rattle.frames.proofs.line.Line.bytes.Given as goal

-- the digits of the first bytes are written
abbrev pub invariant-loop-b : goal.invariant-loop-b
invariant-loop-b l = Wrote l.initial.self.out l.initial.self.at (hex_all (take l.b-index l.src)) l.self.out l.self.at

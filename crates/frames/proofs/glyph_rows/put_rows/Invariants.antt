use Rattle.frames.specs.Hex.{hex_all}
use Rattle.frames.specs.Frames.{rows_from}
use Rattle.frames.specs.Wrote.{Wrote}
use Rattle.frames.proofs.glyph_rows.put_rows.Given as goal

-- the digits of the first rows are written
abbrev pub invariant-loop-k : goal.invariant-loop-k
invariant-loop-k l = Wrote l.initial.line.out l.initial.line.at (hex_all (rows_from l.s l.b l.fn.i 0 l.k)) l.line.out l.line.at

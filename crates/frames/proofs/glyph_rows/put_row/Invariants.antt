use Rattle.bitmaps.specs.Units.{order_of}
use Rattle.bitmaps.specs.Picture.{bits_of}
use Rattle.frames.specs.Hex.{hex_all}
use Rattle.frames.specs.Frames.{row_from}
use Rattle.frames.specs.Wrote.{Wrote}
use Rattle.frames.proofs.glyph_rows.put_row.Given as goal

-- the digits of the row's first bytes are written
abbrev pub invariant-loop-j : goal.invariant-loop-j
invariant-loop-j l = Wrote l.initial.line.out l.initial.line.at (hex_all (row_from (bits_of l.s l.b) (order_of l.b) l.row 0 l.j)) l.line.out l.line.at

-- Each field is read at its place, in the byte order that the format gives.
use Rattle.tables.proofs.Reading.{accelerators_are}
use Rattle.tables.proofs.accelerator_table.accelerators_table.Goals as goal

pub returns : goal.returns
returns c =
    search (
      accelerators_are,
      c.format_at-format.ensures,
      c.big_bit-big.ensures,
      c.byte_at-noOverlap.ensures,
      c.byte_at-constantMetrics.ensures,
      c.byte_at-terminalFont.ensures,
    )

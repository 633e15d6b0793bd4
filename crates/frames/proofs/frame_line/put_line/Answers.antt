-- The length that the code computes is that of the line.
use Rattle.std.proofs.Common.{ap, arith, ◌≤◌}
use lib.ListN.{length}
use Rattle.frames.specs.Frames.{frame}
use Rattle.frames.proofs.Lines.{line_named, name_long, line_long, line_room, line_said}
use Rattle.frames.proofs.frame_line.put_line.Goals as goal

pub returns-then-out-name-clause-value : goal.returns-then-out-name-clause-value
returns-then-out-name-clause-value c = search name_long

pub returns-then-out-fields-clause-value : goal.returns-then-out-fields-clause-value
returns-then-out-fields-clause-value c = search line_long

pub put_fields-requires-clause-name_value : goal.put_fields-requires-clause-name_value
put_fields-requires-clause-name_value c = search line_named

pub put_fields-requires-clause-i_in_bounds : goal.put_fields-requires-clause-i_in_bounds
put_fields-requires-clause-i_in_bounds c =
    let room : length (frame c.args.s.now c.args.rec c.args.code.0 c.args.i) ≤ length c.args.out.now = search line_room in
    omega (arith, room, c.new-line.ensures.at_start, ap length c.new-line.ensures.unwritten)

pub returns-clause-value : goal.returns-clause-value
returns-clause-value c = search line_said

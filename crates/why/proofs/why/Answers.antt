use Rattle.tables.proofs.Guarded.{is_guard}
use Rattle.why.proofs.Ordered.{told_reason, told_refused, stride_fits, scale_fits}
use Rattle.why.proofs.why.Goals as goal

pub overflow_cast-stride : goal.overflow_cast-stride
overflow_cast-stride c = search (stride_fits c.args.bytes.now c.args.rec c.args.start c.args.stride c.args.scale, is_guard)

pub overflow_cast-scale : goal.overflow_cast-scale
overflow_cast-scale c = search (scale_fits c.args.bytes.now c.args.rec c.args.start c.args.stride c.args.scale, is_guard)

pub returns-in-Given : goal.returns-in-Given
returns-in-Given c = search (told_reason, is_guard)

pub returns-in-Refused : goal.returns-in-Refused
returns-in-Refused c = search (told_refused, is_guard)

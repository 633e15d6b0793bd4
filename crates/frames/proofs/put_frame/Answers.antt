use Rattle.frames.proofs.HasFrame.{whole_small}
use Rattle.frames.proofs.put_frame.Goals as goal

pub put_line-requires-clause-code_bound : goal.put_line-requires-clause-code_bound
put_line-requires-clause-code_bound c = whole_small _ _ _ _ _ c.whole_glyph-whole.ensures c.in-Info.is

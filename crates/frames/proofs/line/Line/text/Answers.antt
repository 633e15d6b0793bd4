use Rattle.std.proofs.Common.{refl, ap, ◌∙◌, arith}
use lib.ListN.{length}
use lib.Seq.{length-sets}
use Rattle.frames.proofs.Writing.{text_stored}
use Rattle.frames.proofs.line.Line.text.Goals as goal

pub returns : goal.returns
returns c =
    let e = text_stored _ _ _ _ _ c.copy_from_slice.ensures.after (omega arith) c.requires in
    record { same_buffer = refl; put = record { up_to = refl; stored = e; same = ap length e ∙ length-sets c.args.self.now.out.now c.args.self.now.at c.args.src.now } }

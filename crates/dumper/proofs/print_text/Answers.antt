use Rattle.dumper.proofs.TextRead.{few_bytes}
use Rattle.dumper.proofs.print_text.Goals as goal

pub shared_ref_as_front-print_font : goal.shared_ref_as_front-print_font
shared_ref_as_front-print_font c = few_bytes _ c.args.font.now _ c.in-Bytes.ensures.value

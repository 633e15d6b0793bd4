use mathlib.Core.Path.{refl}
use Rattle.reads.proofs.Numbers.{at_most}
use Rattle.vet.proofs.Refusals.{vet_refusals}
use Rattle.dumper.proofs.print_font.Goals as goal

-- each number that vetting refuses with has two digits
pub print_refused-requires : goal.print_refused-requires
print_refused-requires c = at_most 99 refl (rw (← c.in-Refused.ensures) at (vet_refusals c.args.font.now))

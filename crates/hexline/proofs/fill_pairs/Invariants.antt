-- At each turn what is left of the text, with a first digit that was read, puts the rest of its bytes.
use lib.ListN.{drop}
use Rattle.hexline.proofs.Ahead.{Between}
use Rattle.hexline.proofs.fill_pairs.Given as goal

abbrev pub invariant-loop-c : goal.invariant-loop-c
invariant-loop-c l = Between l.text l.initial.out l.out l.at l.high (drop l.c-index l.text)

-- At each turn what is left of the text says the answer; a bad line says it at once.
use Rattle.hexline.proofs.Scan.{Reading}
use Rattle.hexline.proofs.hex_read.Given as goal

abbrev pub invariant-loop-c : goal.invariant-loop-c
invariant-loop-c l = Reading l.text l.line l.bytes l.digits l.c-index

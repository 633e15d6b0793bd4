-- A character has a byte at least, so less of the text is left after it.
use Rattle.std.proofs.Common.{rules}
use Rattle.utf8.proofs.Walk.{step_less}
use Rattle.console.proofs.characters.CharactersIterator.next.Goals as goal

pub returns-in-Char-clause-goes : goal.returns-in-Char-clause-goes
returns-in-Char-clause-goes c = search (step_less, rules)

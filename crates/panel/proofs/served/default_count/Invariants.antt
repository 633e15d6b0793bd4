use Rattle.std.proofs.Common.{◌≡◌}
use Rattle.panel.proofs.Counting.{Counted}
use Rattle.panel.proofs.served.default_count.Given as goal

abbrev pub invariant-loop-code : goal.invariant-loop-code
invariant-loop-code l =
    (goal.iterator-loop-code).can_next l.code-iterator × (goal.iterator-loop-code).is_finite l.code-iterator
    × (l.code-iterator.text.now ≡ l.text) × Counted l.font l.codes l.mode l.code-iterator.text.now l.code-iterator.at l.n

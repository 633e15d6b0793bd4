use Rattle.std.proofs.Common.{rules}
use mathlib.Core.Path.{ap}
use Rattle.console.specs.declared.characters.Characters.{Characters}
use Rattle.panel.proofs.Counting.{counted-first, count_fits, counted_next, same_text, counted-all}
use Rattle.panel.proofs.served.default_count.Goals as goal

pub loop-code-init : goal.loop-code-init
loop-code-init c =
    let starts = c.into_iter-code-iterator.ensures.into_iter_gives in
    (tt {0}, tt {0}, ap (λ (x : Characters). x.text.now) starts, counted-first _ _ _ c.into_iter-code-iterator.result (ap (λ (x : Characters). x.at) starts))

pub overflow_add-n : goal.overflow_add-n
overflow_add-n c = search (count_fits, rules)

pub loop-code-preserved : goal.loop-code-preserved
loop-code-preserved c =
    let (_, _, same, now) = c.loop-code.invariant in
    let steps = c.in-Some.ensures.steps in
    (tt {0}, tt {0}, same_text _ _ _ _ _ _ now _ _ steps same, counted_next _ _ _ _ _ _ now _ _ _ steps c.serve.ensures c.by_default-counts.ensures)

pub returns : goal.returns
returns c =
    let (_, _, same, now) = c.loop-code.invariant in
    counted-all _ _ _ _ c.next.new.self _ now _ c.in-None.ensures.steps same

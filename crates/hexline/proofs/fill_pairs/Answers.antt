use Rattle.hexline.proofs.Ahead.{filling_first, first_next, second_next}
use Rattle.hexline.proofs.fill_pairs.Goals as goal
use Rattle.hexline.proofs.fill_pairs.Goals.{in-None, in-Some-high}

pub loop-c-init : goal.loop-c-init
loop-c-init c = filling_first _ _ c.requires.text_value c.requires.text_in_bounds

-- a first digit is kept, a second one makes a byte
pub loop-c-preserved : goal.loop-c-preserved
loop-c-preserved c =
    elim c.match-high.branch [
      | in-None w ↦
          rw (w.out-is, w.high-is, w.at-is)
          (first_next _ _ _ _ _ c.loop-c-test.true _ c.loop-c.invariant _ c.in-Some.ensures.0 w.in-None.is c.in-Some.ensures.1)
      | in-Some-high w ↦
          rw (w.out-is, w.high-is, w.at-is)
          (second_next _ _ _ _ _ c.loop-c-test.true _ c.loop-c.invariant _ c.in-Some.ensures.0 _ w.in-Some-high.is)
    ]

use Rattle.bitmaps.proofs.LentRows.{all_there, rows_found, from_fits}
use Rattle.outcome.proofs.Tests.{octets, shown_13, shown_nothing, shown_14, shown_16, shown_fitting, shown_searched}
use Rattle.outcome.proofs.check.shown_at.Goals as goal
use Rattle.outcome.proofs.check.shown_at.Goals.{then-corner_past+else-rows_past, else-corner_past}

pub returns-then-unreadable : goal.returns-then-unreadable
returns-then-unreadable c = search shown_13

pub returns-then-n-width : goal.returns-then-n-width
returns-then-n-width c = search shown_nothing

pub returns-then-bytes_past : goal.returns-then-bytes_past
returns-then-bytes_past c = search shown_14

pub overflow_add-from : goal.overflow_add-from
overflow_add-from c = search from_fits

pub returns-then-rows_past : goal.returns-then-rows_past
returns-then-rows_past c =
    search (shown_16, rows_found, octets c.args.s.now c.type_inv.s)

pub returns : goal.returns
returns c =
    elim c.if-corner_past.branch [
      | then-corner_past+else-rows_past w ↦ search (shown_searched, rows_found, octets c.args.s.now c.type_inv.s)
      | else-corner_past w ↦ search (shown_fitting, all_there)
    ]

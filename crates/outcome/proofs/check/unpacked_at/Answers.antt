use Rattle.bitmaps.proofs.LentRows.{all_there, rows_found, from_fits}
use Rattle.outcome.proofs.Tests.{octets, unpacked_13, unpacked_nothing, unpacked_14, unpacked_16, unpacked_fitting, unpacked_searched}
use Rattle.outcome.proofs.check.unpacked_at.Goals as goal

pub returns-then-unreadable : goal.returns-then-unreadable
returns-then-unreadable c = search unpacked_13

pub returns-then-height-width : goal.returns-then-height-width
returns-then-height-width c = search unpacked_nothing

pub returns-then-bytes_past : goal.returns-then-bytes_past
returns-then-bytes_past c = search unpacked_14

pub overflow_add-from : goal.overflow_add-from
overflow_add-from c = search from_fits

pub returns-then-rows_past : goal.returns-then-rows_past
returns-then-rows_past c =
    search (unpacked_16, rows_found, octets c.args.s.now c.type_inv.s)

pub returns-else-rows_past : goal.returns-else-rows_past
returns-else-rows_past c =
    search (unpacked_searched, rows_found, octets c.args.s.now c.type_inv.s)

pub returns-else-corner_past : goal.returns-else-corner_past
returns-else-corner_past c = search (unpacked_fitting, all_there)

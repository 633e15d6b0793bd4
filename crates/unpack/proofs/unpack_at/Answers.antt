use mathlib.Core.Path.{◌≡◌, refl}
use native.Mathlib.Omega.{arith}
use native.Mathlib.Nat.{le_refl}
use lib.ListN.{length}
use Rattle.bitmaps.specs.Unpack.{whole_columns, unscaled, unpacked_at}
use Rattle.bitmaps.specs.declared.Unpacked.{Unpacked}
use Rattle.bitmaps.proofs.LentRows.{rows_found, from_fits, rows_there, lent_room, lent_drawn}
use Rattle.bitmaps.proofs.NoDots.{dots_behind}
use Rattle.outcome.proofs.Tests.{octets, Passed, nothing_coloured, unpacked_13, unpacked_nothing, unpacked_14, unpacked_16, unpacking_fits, unpacking_searched}
use Rattle.unpack.proofs.unpack_at.Goals as goal
use Rattle.unpack.proofs.unpack_at.Goals.{Joined-corner_past, then-corner_past+else-rows_past, else-corner_past}

-- where the ways of the last test meet, nothing refuses
passed : (c : Joined-corner_past) →
    Passed (Unpacked.Rows c.args.height ≡ unpacked_at c.args.s.now c.args.b c.args.g.0 c.args.width c.args.height (length c.args.buf.now) c.args.p c.args.stride) c.args.s.now c.args.b
    c.args.g.0 c.args.width (whole_columns c.args.width) c.args.height c.offset_of-first.result c.row_stride-step.result (unscaled c.args.p c.args.stride)
    (length c.args.buf.now)
passed c =
    elim c.if-corner_past.branch [
      | then-corner_past+else-rows_past w ↦ search (unpacking_searched, rows_found, octets c.args.s.now c.type_inv.s)
      | else-corner_past w ↦ search (unpacking_fits, rows_found)
    ]

pub returns-then-unreadable : goal.returns-then-unreadable
returns-then-unreadable c = search unpacked_13

pub returns-then-height-width : goal.returns-then-height-width
returns-then-height-width c =
    record { value = search unpacked_nothing; buf_after = nothing_coloured _ _ _ _ _ _ _ (le_refl _) (search) _ _ }

pub returns-then-bytes_past : goal.returns-then-bytes_past
returns-then-bytes_past c = search unpacked_14

pub overflow_add-from : goal.overflow_add-from
overflow_add-from c = search from_fits

pub returns-then-rows_past : goal.returns-then-rows_past
returns-then-rows_past c =
    record { value = search (unpacked_16, rows_found, octets c.args.s.now c.type_inv.s); buf_after = refl }

pub unpack_rows-requires : goal.unpack_rows-requires
unpack_rows-requires c =
    let t = passed (goal.at.unpack_rows-requires c).Joined-corner_past in
    let order = c.order_of-then-p-buf.ensures in
    record {
      le_n = (t.found.rows, rows_there _ _ _ _ _ _ _ t.found _ order);
      buf_value = lent_room _ _ _ _ _ _ _ t.found _ order _ _ _ _ (le_refl _) (octets c.args.s.now c.type_inv.s) c.args.buf.now t.room;
    }

pub returns-then-p-buf : goal.returns-then-p-buf
returns-then-p-buf c =
    let t = passed (goal.at.returns-then-p-buf c).Joined-corner_past in
    let order = c.order_of-then-p-buf.ensures in
    record {
      value = t.answer;
      buf_after = lent_drawn _ _ _ _ _ _ _ t.found _ order _ _ _ _ (le_refl _) (octets c.args.s.now c.type_inv.s) _ _ _ c.unpack_rows.ensures;
    }

pub returns-else-p-buf : goal.returns-else-p-buf
returns-else-p-buf c =
    record {
      value = (passed (goal.at.returns-else-p-buf c).Joined-corner_past).answer;
      buf_after = dots_behind _ _ _ _ _ _ (omega arith);
    }

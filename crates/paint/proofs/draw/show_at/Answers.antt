use mathlib.Core.Path.{◌≡◌, refl}
use lib.ListN.{length}
use Rattle.bitmaps.specs.Place.{place_at}
use Rattle.bitmaps.specs.Draw.{rows_of, shown_at}
use Rattle.bitmaps.specs.declared.Drawn.{Drawn}
use Rattle.bitmaps.proofs.LentRows.{rows_found, from_fits, rows_there, lent_room, lent_drawn}
use Rattle.outcome.proofs.Tests.{octets, Passed, own_columns, nothing_coloured, shown_13, shown_nothing, shown_14, shown_16, drawing_fits, drawing_searched}
use Rattle.paint.proofs.Decided.{some_scale, place_reached, place_bytes_fit}
use Rattle.paint.proofs.draw.show_at.Goals as goal
use Rattle.paint.proofs.draw.show_at.Goals.{Joined-corner_past, then-corner_past+else-rows_past, else-corner_past}

-- where the ways of the last test meet, nothing refuses
passed : (c : Joined-corner_past) →
    Passed (Drawn.Rows (rows_of c.args.height c.rows_drawn-n.result) ≡ shown_at c.args.s.now c.args.b c.args.g.0 c.args.width c.args.height (length c.args.buf.now) (place_at c.args.p c.args.stride c.args.scale))
    c.args.s.now c.args.b c.args.g.0 c.args.width c.args.width c.rows_drawn-n.result c.offset_of-first.result c.row_stride-step.result (place_at c.args.p c.args.stride c.args.scale)
    (length c.args.buf.now)
passed c =
    elim c.if-corner_past.branch [
      | then-corner_past+else-rows_past w ↦ search (drawing_searched, rows_found, octets c.args.s.now c.type_inv.s)
      | else-corner_past w ↦ search (drawing_fits, rows_found)
    ]

pub returns-then-unreadable : goal.returns-then-unreadable
returns-then-unreadable c = search shown_13

pub returns-then-n-width : goal.returns-then-n-width
returns-then-n-width c =
    record { value = search shown_nothing; buf_after = nothing_coloured _ _ _ _ _ _ _ (own_columns _) (search) _ _ }

pub returns-then-bytes_past : goal.returns-then-bytes_past
returns-then-bytes_past c = search shown_14

pub overflow_add-from : goal.overflow_add-from
overflow_add-from c = search from_fits

pub returns-then-rows_past : goal.returns-then-rows_past
returns-then-rows_past c =
    record { value = search (shown_16, rows_found, octets c.args.s.now c.type_inv.s); buf_after = refl }

pub offset_bounds-buf-p : goal.offset_bounds-buf-p
offset_bounds-buf-p c = search place_bytes_fit

pub slice_bounds-glyph_rows-count : goal.slice_bounds-glyph_rows-count
slice_bounds-glyph_rows-count c = search place_reached

pub slice_bounds-glyph_rows-start : goal.slice_bounds-glyph_rows-start
slice_bounds-glyph_rows-start c = search place_reached

pub glyph_rows-requires : goal.glyph_rows-requires
glyph_rows-requires c =
    let t = passed (goal.at.glyph_rows-requires c).Joined-corner_past in
    let order = c.order_of-2.ensures in
    record {
      le_scale = (search some_scale, t.found.rows, rows_there _ _ _ _ _ _ _ t.found _ order);
      buf_value = lent_room _ _ _ _ _ _ _ t.found _ order _ _ _ _ (own_columns _) (octets c.args.s.now c.type_inv.s) c.args.buf.now t.room;
    }

pub returns : goal.returns
returns c =
    let t = passed (goal.at.returns c).Joined-corner_past in
    let order = c.order_of-2.ensures in
    record {
      value = t.answer;
      buf_after = lent_drawn _ _ _ _ _ _ _ t.found _ order _ _ _ _ (own_columns _) (octets c.args.s.now c.type_inv.s) _ _ _ c.glyph_rows.ensures;
    }

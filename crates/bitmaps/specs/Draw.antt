-- Drawing a glyph's bitmap at a place. From document 01, "Placing and colouring", and the order "12, 13, 14, 16".
use Rattle.std.specs.Prelude.{ℕ, ◌-◌, Bool, cond, ◌&&◌, List, [], ◌∷◌, ℤ, pos}
use Rattle.reads.specs.Said.{Said, refusal, says, refuses}
use Rattle.tables.specs.Fits.{guarded, permitted}
use Rattle.tables.specs.declared.BitmapData.{BitmapData}
use Rattle.tables.specs.declared.Permit.{Permit}
use Rattle.tables.specs.declared.Record.{Record}
use Rattle.bitmaps.specs.Paint.{painted}
use Rattle.bitmaps.specs.Place.{Place}
use Rattle.bitmaps.specs.Limits.{ok_place, ok_pair}
use Rattle.bitmaps.specs.Cut.{drawn_rows}
use Rattle.bitmaps.specs.Picture.{no_bitmap, unreadable, rows_short, in_picture, pixel_past}
use Rattle.bitmaps.specs.declared.Rows.{Rows}
use Rattle.bitmaps.specs.declared.Drawn.{Drawn}

-- "The answer holds rows drawn"
abbrev pub rows_of : ℕ → ℕ → Rows
rows_of height n = record { drawn = n; dropped = height - n }

-- glyph g, which has a bitmap, of this width and height, at a place of `len` pixels: 13, "14 is tested over the drawn rows, then 16"
unfoldable pub shown_at : List ℕ → BitmapData → ℕ → ℕ → ℕ → ℕ → Place → Drawn
shown_at s b g width height len at =
    let n = drawn_rows len at height in
    cond (unreadable b) (Drawn.Refused (refusal 13 0))
    (cond (rows_short s b g width n) (Drawn.Refused (refusal 14 0))
    (cond (pixel_past s b g width width at n len) (Drawn.Refused (refusal 16 0))
    (Drawn.Rows (rows_of height n))))

-- pixel i is one that glyph g colours with n rows drawn there
abbrev pub in_glyph : List ℕ → BitmapData → ℕ → ℕ → Place → ℕ → ℕ → Bool
in_glyph s b g width at n i = in_picture s b g width width at n i

-- what drawing glyph g there leaves in the buffer; "lent buffers keep their contents" on a refusal
abbrev pub shown_leaves : List ℕ → BitmapData → ℕ → ℕ → Place → ℕ → Drawn → List ℕ → List ℕ
shown_leaves s b g width at colour (Drawn.Rows r) old = painted (in_glyph s b g width at r.drawn) colour old
shown_leaves s b g width at colour (Drawn.Refused r) old = old

-- what is tested before a bitmap is drawn: 6, 15, 12
unfoldable pub bitmap_ready : List ℕ → Record → ℕ → ℕ → ℕ → Place → Permit
bitmap_ready s rec g width height at =
    guarded Permit.Refused s rec (ok_place at && ok_pair width height)
    (cond (no_bitmap rec.bitmaps g) (Permit.Refused (refusal 12 0)) Permit.Given)

-- `draw_bitmap`: "p = start"; 6, 15, 12, then 13, 14, 16. It leaves `shown_leaves`.
unfoldable pub draw_bitmap : List ℕ → Record → ℕ → ℕ → ℕ → ℕ → Place → Drawn
draw_bitmap s rec g width height len at =
    permitted Drawn.Refused (bitmap_ready s rec g width height at) (shown_at s rec.bitmaps g width height len at)

abbrev pub rows_values : Rows → List ℤ
rows_values r = pos r.drawn ∷ pos r.dropped ∷ []

abbrev pub said_drawn : Drawn → Said
said_drawn (Drawn.Rows r) = says (rows_values r)
said_drawn (Drawn.Refused r) = refuses r

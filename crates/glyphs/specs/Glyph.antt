-- Drawing a placed glyph. From document 01: "Drawing happens at p = start + stride × scale × pad_top + scale × pad_left"; "`draw_glyph`,
-- `unpack_glyph`, `draw_char` and texts treat 12 as nothing drawn, 0 dropped."
use Rattle.std.specs.Prelude.{ℕ, ◌+◌, ◌*◌, Bool, cond, ◌&&◌, List}
use Rattle.tables.specs.Fits.{guard, permitted}
use Rattle.tables.specs.declared.BitmapData.{BitmapData}
use Rattle.tables.specs.declared.Permit.{Permit}
use Rattle.tables.specs.declared.Record.{Record}
use Rattle.modes.specs.declared.Mode.{Mode}
use Rattle.bitmaps.specs.Place.{Place, place_at}
use Rattle.bitmaps.specs.Limits.{ok_place, ok_pair}
use Rattle.bitmaps.specs.Picture.{no_bitmap}
use Rattle.bitmaps.specs.Draw.{shown_at, shown_leaves, in_glyph}
use Rattle.bitmaps.specs.declared.Drawn.{Drawn}
use Rattle.place.specs.declared.GlyphInfo.{GlyphInfo}

-- p, of a glyph that is drawn from a start on
abbrev pub place_of : GlyphInfo → Place → Place
place_of i at =
    place_at (at.p + at.stride * at.scale * i.pad_top + at.scale * i.pad_left) at.stride at.scale

-- "each given width, height and pad at most 32,767", in each mode so far
abbrev pub ok_info : Mode → GlyphInfo → Bool
ok_info mode i = ok_pair i.width i.height && ok_pair i.pad_top i.pad_left

-- "nothing drawn, 0 dropped"
abbrev pub nothing_drawn : Drawn
nothing_drawn = Drawn.Rows (record { drawn = 0; dropped = 0 })

-- a placed glyph into `len` pixels: 13, 14, 16, or the rows
unfoldable pub glyph_drawn : List ℕ → BitmapData → GlyphInfo → ℕ → Place → Drawn
glyph_drawn s b i len at =
    cond (no_bitmap b i.glyph.0) nothing_drawn (shown_at s b i.glyph.0 i.width i.height len (place_of i at))

-- the pixels of a placed glyph of which n rows are drawn
abbrev pub in_info : List ℕ → BitmapData → GlyphInfo → Place → ℕ → ℕ → Bool
in_info s b i at n = in_glyph s b i.glyph.0 i.width (place_of i at) n

-- what is tested before a placed glyph is drawn or unpacked: 6, 15
unfoldable pub glyph_ready : List ℕ → Record → Mode → GlyphInfo → Place → Permit
glyph_ready s rec mode i at = guard s rec (ok_place at && ok_info mode i)

-- `draw_glyph`: 6, 15, then 13, 14, 16
unfoldable pub draw_glyph : List ℕ → Record → Mode → GlyphInfo → ℕ → Place → Drawn
draw_glyph s rec mode i len at = permitted Drawn.Refused (glyph_ready s rec mode i at) (glyph_drawn s rec.bitmaps i len at)

-- what `draw_glyph` leaves in the buffer
abbrev pub glyph_leaves : List ℕ → Record → GlyphInfo → Place → ℕ → Drawn → List ℕ → List ℕ
glyph_leaves s rec i at colour = shown_leaves s rec.bitmaps i.glyph.0 i.width (place_of i at) colour

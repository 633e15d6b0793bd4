-- Unpacking a glyph's bitmap into bytes 0 and 1. From document 01: "`unpack_glyph` stores 1 for each set bit of every whole row
-- byte, columns past the width included, with no cut of rows and scale 1."
use Rattle.std.specs.Prelude.{ℕ, ◌*◌, Bool, cond, List, [], ◌∷◌, pos}
use Rattle.reads.specs.Said.{Said, refusal, says, refuses}
use Rattle.tables.specs.declared.BitmapData.{BitmapData}
use Rattle.bitmaps.specs.Paint.{painted}
use Rattle.bitmaps.specs.Place.{Place, place_at}
use Rattle.bitmaps.specs.Rows.{row_bytes}
use Rattle.bitmaps.specs.Picture.{unreadable, rows_short, in_picture, pixel_past}
use Rattle.bitmaps.specs.declared.Unpacked.{Unpacked}

-- the columns of "every whole row byte": eight for each byte that the width needs, wherever it stands
abbrev pub whole_columns : ℕ → ℕ
whole_columns width = 8 * row_bytes width

-- "scale 1"
abbrev pub unscaled : ℕ → ℕ → Place
unscaled p stride = place_at p stride 1

-- glyph g, which has a bitmap, at place p of `len` bytes: 13, 14, 16, or all its rows
unfoldable pub unpacked_at : List ℕ → BitmapData → ℕ → ℕ → ℕ → ℕ → ℕ → ℕ → Unpacked
unpacked_at s b g width height len p stride =
    cond (unreadable b) (Unpacked.Refused (refusal 13 0))
    (cond (rows_short s b g width height) (Unpacked.Refused (refusal 14 0))
    (cond (pixel_past s b g width (whole_columns width) (unscaled p stride) height len) (Unpacked.Refused (refusal 16 0))
    (Unpacked.Rows height)))

-- byte i is one where unpacking n rows of glyph g at p stores 1
abbrev pub in_unpacked : List ℕ → BitmapData → ℕ → ℕ → ℕ → ℕ → ℕ → ℕ → Bool
in_unpacked s b g width p stride n i = in_picture s b g width (whole_columns width) (unscaled p stride) n i

abbrev pub unpacked_leaves : List ℕ → BitmapData → ℕ → ℕ → ℕ → ℕ → Unpacked → List ℕ → List ℕ
unpacked_leaves s b g width p stride (Unpacked.Rows n) old = painted (in_unpacked s b g width p stride n) 1 old
unpacked_leaves s b g width p stride (Unpacked.Refused r) old = old

abbrev pub said_unpacked : Unpacked → Said
said_unpacked (Unpacked.Rows n) = says (pos n ∷ [])
said_unpacked (Unpacked.Refused r) = refuses r

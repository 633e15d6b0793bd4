-- Unpacking a placed glyph. From document 01, "Placing and colouring": p as for drawing, with scale 1; 12 is nothing unpacked.
use Rattle.std.specs.Prelude.{ℕ, cond, List}
use Rattle.tables.specs.Fits.{permitted}
use Rattle.tables.specs.declared.BitmapData.{BitmapData}
use Rattle.tables.specs.declared.Record.{Record}
use Rattle.modes.specs.declared.Mode.{Mode}
use Rattle.bitmaps.specs.Picture.{no_bitmap}
use Rattle.bitmaps.specs.Unpack.{unscaled, unpacked_at, unpacked_leaves}
use Rattle.bitmaps.specs.declared.Unpacked.{Unpacked}
use Rattle.glyphs.specs.Glyph.{place_of, glyph_ready}
use Rattle.place.specs.declared.GlyphInfo.{GlyphInfo}

-- a placed glyph into `len` bytes: 13, 14, 16, or its rows
unfoldable pub glyph_unpacked : List ℕ → BitmapData → GlyphInfo → ℕ → ℕ → ℕ → Unpacked
glyph_unpacked s b i len start stride =
    cond (no_bitmap b i.glyph.0) (Unpacked.Rows 0)
    (unpacked_at s b i.glyph.0 i.width i.height len (place_of i (unscaled start stride)).p stride)

-- `unpack_glyph`: 6, 15, then 13, 14, 16
unfoldable pub unpack_glyph : List ℕ → Record → Mode → GlyphInfo → ℕ → ℕ → ℕ → Unpacked
unpack_glyph s rec mode i len start stride =
    permitted Unpacked.Refused (glyph_ready s rec mode i (unscaled start stride)) (glyph_unpacked s rec.bitmaps i len start stride)

-- what `unpack_glyph` leaves in the buffer
abbrev pub unpack_leaves : List ℕ → Record → GlyphInfo → ℕ → ℕ → Unpacked → List ℕ → List ℕ
unpack_leaves s rec i start stride = unpacked_leaves s rec.bitmaps i.glyph.0 i.width (place_of i (unscaled start stride)).p stride

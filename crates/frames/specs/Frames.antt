-- The dump's frames. From document 01: "one frame a line for each code with a glyph, ascending: code, glyph, width, height, pad top,
-- pad left (four hexadecimal digits each), name bytes, row bytes without padding ("-" where either has none)".
use Rattle.std.specs.Prelude.{ℕ, zero, suc, ◌+◌, List, [], ◌∷◌, ◌++◌}
use Rattle.tables.specs.declared.BitmapData.{BitmapData}
use Rattle.tables.specs.declared.Record.{Record}
use Rattle.names.specs.Names.{name_of, name_bytes}
use Rattle.bitmaps.specs.Units.{order_of, row_byte}
use Rattle.bitmaps.specs.Rows.{row_bytes}
use Rattle.bitmaps.specs.declared.Order.{Order}
use Rattle.bitmaps.specs.Picture.{bits_of, row_of}
use Rattle.place.specs.declared.GlyphInfo.{GlyphInfo}
use Rattle.place.specs.declared.Prepared.{Prepared}
use Rattle.frames.specs.Whole.{whole_glyph}
use Rattle.frames.specs.Hex.{hex_four, field, ◌␣◌}

-- n bytes of the row that begins at byte `row` of the data, eight columns each, from the j-th eight on
unfoldable pub row_from : List ℕ → Order → ℕ → ℕ → ℕ → List ℕ
row_from bits o row j zero = []
row_from bits o row j (suc n) = row_byte bits o row j ∷ row_from bits o row (j + 1) n

-- n rows of a glyph from row r on: "row bytes without padding"
unfoldable pub rows_from : List ℕ → BitmapData → GlyphInfo → ℕ → ℕ → List ℕ
rows_from s b i r zero = []
rows_from s b i r (suc n) =
    row_from (bits_of s b) (order_of b) (row_of s b i.glyph.0 i.width r) 0 (row_bytes i.width) ++ rows_from s b i (r + 1) n

abbrev pub glyph_rows : List ℕ → BitmapData → GlyphInfo → List ℕ
glyph_rows s b i = rows_from s b i 0 i.height

unfoldable pub frame : List ℕ → Record → ℕ → GlyphInfo → List ℕ
frame s rec code i =
    hex_four code ␣ hex_four i.glyph.0 ␣ hex_four i.width ␣ hex_four i.height ␣ hex_four i.pad_top ␣ hex_four i.pad_left
    ␣ field (name_bytes s (name_of s rec.names i.glyph.0)) ␣ field (glyph_rows s rec.bitmaps i) ++ (10 ∷ [])

abbrev pub frame_info : List ℕ → Record → ℕ → Prepared → List ℕ
frame_info s rec code (Prepared.Info i) = frame s rec code i
frame_info s rec code (Prepared.Refused r) = []

-- a code's line, where nothing of it is missing
unfoldable pub frame_of : List ℕ → Record → ℕ → List ℕ
frame_of s rec code = frame_info s rec code (whole_glyph s rec code)

-- the lines of the n codes from `code` on, ascending
unfoldable pub frames_from : List ℕ → Record → ℕ → ℕ → List ℕ
frames_from s rec zero code = []
frames_from s rec (suc n) code = frame_of s rec code ++ frames_from s rec n (code + 1)

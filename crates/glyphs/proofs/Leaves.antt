-- What drawing a character leaves is what drawing its glyph leaves; unpacking nothing leaves the buffer as it was.
use Prim.Native.Nat.{ℕ}
use mathlib.Core.Path.{◌≡◌}
use mathlib.Core.List.{List}
use native.Mathlib.Omega.{arith}
use Rattle.tables.specs.declared.Record.{Record}
use Rattle.lookup.specs.declared.Supplier.{Supplier}
use Rattle.bitmaps.specs.Place.{Place}
use Rattle.bitmaps.specs.Picture.{glyph_bit}
use Rattle.bitmaps.specs.Draw.{shown_leaves}
use Rattle.bitmaps.specs.Unpack.{unscaled, whole_columns}
use Rattle.bitmaps.specs.declared.Drawn.{Drawn}
use Rattle.bitmaps.specs.declared.Unpacked.{Unpacked}
use Rattle.bitmaps.proofs.NoDots.{no_dots}
use Rattle.place.specs.declared.GlyphInfo.{GlyphInfo}
use Rattle.glyphs.specs.Glyph.{place_of}
use Rattle.glyphs.specs.Char.{char_of, char_leaves}
use Rattle.glyphs.specs.Unpack.{unpack_leaves}
use Rattle.glyphs.specs.declared.CharDrawn.{CharDrawn}

pub char_leaves_lem : (s : List ℕ) (rec : Record) (i : GlyphInfo) (by : Supplier) (at : Place) (colour : ℕ) (drawn : Drawn) (r : CharDrawn) (old new : List ℕ) → r ≡ char_of i by drawn
    → new ≡ shown_leaves s rec.bitmaps i.glyph.0 i.width (place_of i at) colour drawn old → new ≡ char_leaves s rec at colour r old
char_leaves_lem s rec i by at colour (Drawn.Rows d) r old new is e = rw is e
char_leaves_lem s rec i by at colour (Drawn.Refused d) r old new is e = rw is e

-- a glyph without a bitmap stores nothing
pub nothing_unpacked : (s : List ℕ) (rec : Record) (i : GlyphInfo) (start stride : ℕ) (old : List ℕ)
    → old ≡ unpack_leaves s rec i start stride (Unpacked.Rows 0) old
nothing_unpacked s rec i start stride old =
    no_dots (glyph_bit s rec.bitmaps i.glyph.0 i.width) (place_of i (unscaled start stride)) (whole_columns i.width) 0 1 old
    (λ r c a h l m. omega arith)

-- How long a frame is: 24 digits, seven spaces, a newline and the two fields.
use mathlib.Core.Path.{◌≡◌, refl, ap, ◌∙◌}
use mathlib.Core.Bool.{true}
use mathlib.Core.List.{List, [], ◌∷◌, ◌++◌}
use Prim.Native.Nat.{ℕ, ◌+◌, ◌*◌, max}
use native.Mathlib.Omega.{arith}
use lib.ListN.{length, length-append}
use Rattle.tables.specs.Fits.{record_fits}
use Rattle.tables.specs.declared.BitmapData.{BitmapData}
use Rattle.tables.specs.declared.Record.{Record}
use Rattle.names.specs.Names.{name_of, get_name, name_bytes}
use Rattle.bitmaps.specs.Rows.{row_bytes}
use Rattle.place.specs.declared.GlyphInfo.{GlyphInfo}
use Rattle.frames.specs.Hex.{field}
use Rattle.frames.specs.Frames.{glyph_rows, frame}
use Rattle.frames.proofs.HexRuns.{length-field}
use Rattle.frames.proofs.RowRuns.{length_rows}

pub length-picture : (s : List ℕ) (b : BitmapData) (i : GlyphInfo) → length (field (glyph_rows s b i)) ≡ max 1 (2 * (i.height * row_bytes i.width))
length-picture s b i = length-field (glyph_rows s b i) ∙ ap (λ (n : ℕ). max 1 (2 * n)) (length_rows s b i 0 i.height)

module _ (s : List ℕ) (rec : Record) (i : GlyphInfo) where
  abbrev pub name_inside : List ℕ
  name_inside = name_bytes s (name_of s rec.names i.glyph.0)

  pub length_frame : (code : ℕ) → length (frame s rec code i) ≡ 32 + max 1 (2 * length name_inside) + max 1 (2 * (i.height * row_bytes i.width))
  unfolding frame
  length_frame code =
      let rows = glyph_rows s rec.bitmaps i in
      let fields = length-append (field name_inside) (32 ∷ field rows ++ (10 ∷ [])) in
      let ending = length-append (field rows) (10 ∷ []) in
      omega (arith, fields, ending, length-field name_inside, length-picture s rec.bitmaps i)

  -- in a record that passes its test a glyph's name is the one its table says
  pub name_in : record_fits (length s) rec ≡ true → name_bytes s (get_name s rec i.glyph.0) ≡ name_inside
  unfolding get_name
  name_in e = rw e refl

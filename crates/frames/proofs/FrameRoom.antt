-- How much room a frame can need: the rows of a glyph that lie in the bitmap data, and a name, are no more bytes than the font has.
use mathlib.Core.Path.{◌≡◌, refl, sym, ◌∙◌}
use mathlib.Core.Bool.{true, false, beq}
use mathlib.Core.List.{List}
use Prim.Native.Nat.{ℕ, zero, suc, ◌+◌, ◌-◌, ◌*◌, ◌≤◌, ◌<◌}
use native.Mathlib.Nat.{zero-mul, mul-zero, mod-lt, div-add-mod', mul-le-mul}
use native.Mathlib.Omega.{arith}
use lib.ListN.{length, drop, length-take, length-drop}
use lib.Dec.{eqb}
use borrow.Author.Tests.{ltb-false, eqb-true, eqb-false}
use Rattle.reads.proofs.Tests.{split}
use Rattle.tables.specs.Fits.{record_fits}
use Rattle.tables.proofs.RecordParts.{pad_above_0}
use Rattle.tables.specs.declared.BitmapData.{BitmapData}
use Rattle.tables.specs.declared.Record.{Record}
use Rattle.names.specs.Names.{name_of, span_of, name_bytes}
use Rattle.names.specs.declared.Named.{Named}
use Rattle.bitmaps.specs.Units.{order_of, unit_bytes}
use Rattle.bitmaps.specs.Rows.{row_bytes, row_stride, row_end}
use Rattle.bitmaps.specs.Picture.{bits_of, offset_of, rows_short}
use Rattle.bitmaps.specs.declared.Order.{Order}
use Rattle.bitmaps.proofs.DataBytes.{data_length}
use Rattle.bitmaps.proofs.LastByte.{last_byte}
use Rattle.bitmaps.proofs.UnitBits.{unit_some}
use Rattle.bitmaps.proofs.RowEnds.{held_straight, held_mirrored, end_straight, end_mirrored}
use Rattle.place.specs.declared.GlyphInfo.{GlyphInfo}
use Rattle.place.specs.declared.Prepared.{Prepared}
use Rattle.frames.specs.Frames.{glyph_rows, frame}
use Rattle.frames.specs.Whole.{whole_glyph}
use Rattle.frames.proofs.RowRuns.{length_rows, one_more}
use Rattle.frames.proofs.FrameLength.{length_frame}
use Rattle.frames.proofs.HasFrame.{whole_rows}

-- rows do not overlap: a stride is no shorter than a row
stride_covers : (width pad : ℕ) → 0 < pad → row_bytes width ≤ row_stride width pad
stride_covers width pad h =
    let whole = row_bytes width + (pad - 1) in
    omega (arith, mod-lt whole {m = pad} h, div-add-mod' whole pad)

-- its columns need no fewer bytes than a row has, in whatever order their bytes stand
row_reaches : (o : Order) (width : ℕ) → row_bytes width ≤ row_end o width
row_reaches o width =
    let w = unit_bytes o.unit in
    let x = row_bytes width + (w - 1) in
    split (beq o.big o.top) (λ t. omega (arith, end_straight o (λ j. held_straight o j t) width))
    (λ t.
    omega (arith, unit_some o.unit, end_mirrored o w (unit_some o.unit) (λ j. held_mirrored o j w refl t) width, div-add-mod' x w, mod-lt x {m = w} (unit_some o.unit)))

-- n rows of w bytes that begin a stride of at least w apart end w bytes after the last one's start
rows_end : (n w stride : ℕ) → 0 < n → w ≤ stride → n * w ≤ (n - 1) * stride + w
rows_end zero w stride h c = absurd (omega arith)
rows_end (suc n) w stride h c =
    let m : suc n - 1 ≡ n = omega arith in
    let apart : n * w ≤ n * stride = mul-le-mul {n₁ = n} {m₁ = w} {n₂ = n} {m₂ = stride} (omega arith) c in
    rw m (omega (arith, one_more n w))

module _ (s : List ℕ) (b : BitmapData) (i : GlyphInfo) (pad : 0 < b.pad) (fit : rows_short s b i.glyph.0 i.width i.height ≡ false) where
  some_rows : 0 < i.width → 0 < i.height → i.height * row_bytes i.width ≤ length s
  some_rows w h =
      let stride = row_stride i.width b.pad in
      let first = offset_of s b i.glyph.0 in
      let size = length (bits_of s b) in
      let last = first + (i.height - 1) * stride + row_end (order_of b) i.width in
      let inside-data : last ≤ size = ltb-false size last (sym (last_byte s b i.glyph.0 i.width i.height w h) ∙ fit) in
      let end = rows_end i.height (row_bytes i.width) stride h (stride_covers i.width b.pad pad) in
      omega (arith, end, row_reaches (order_of b) i.width, data_length s b)

  -- where 14 does not occur, a glyph has no more row bytes than the font has bytes
  rows_within : length (glyph_rows s b i) ≤ length s
  rows_within =
      rw (length_rows s b i 0 i.height)
      (split (eqb i.width 0)
      (λ t. let none : row_bytes i.width ≡ 0 = omega (arith, eqb-true i.width 0 t) in
      rw (none, mul-zero i.height) (omega arith))
      (λ t. split (eqb i.height 0)
      (λ u. rw (eqb-true i.height 0 u, zero-mul (row_bytes i.width)) (omega arith))
      (λ u. some_rows (omega (arith, eqb-false i.width 0 t)) (omega (arith, eqb-false i.height 0 u)))))

-- a name is a part of the font's bytes
name_within : (s : List ℕ) (n : Named) → length (name_bytes s n) ≤ length s
name_within s n =
    let p = span_of n in
    rw (length-take p.len (drop p.start s), length-drop p.start s) (omega arith)

-- a frame, of any font that its record fits: 49,152 bytes need at most 196,642 characters
pub frame_room : (s : List ℕ) (rec : Record) (code : ℕ) (i : GlyphInfo)
    → record_fits (length s) rec ≡ true → whole_glyph s rec code ≡ Prepared.Info i → length (frame s rec code i) ≤ 34 + 4 * length s
frame_room s rec code i fits e =
    omega (
      arith,
      length_frame s rec i code,
      name_within s (name_of s rec.names i.glyph.0),
      length_rows s rec.bitmaps i 0 i.height,
      rows_within s rec.bitmaps i (pad_above_0 (length s) rec fits) (whole_rows s rec code i e),
    )

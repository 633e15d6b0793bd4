-- The numbers that a line of the dump is refused with: what a frame lacks, and 15.
use Prim.Native.Nat.{ℕ}
use mathlib.Core.Path.{◌≡◌, refl}
use mathlib.Core.Bool.{true}
use mathlib.Core.List.{List, [], ◌∷◌}
use lib.ListN.{length}
use lib.Dec.{ltb}
use Rattle.reads.specs.Said.{NumberedBy}
use Rattle.reads.proofs.Numbers.{has_values, has_number, whichever, wider}
use Rattle.tables.specs.Fits.{record_fits}
use Rattle.tables.specs.declared.Record.{Record}
use Rattle.tables.proofs.RecordParts.{name_strings}
use Rattle.lookup.specs.Lookup.{glyph_of, said_found}
use Rattle.lookup.specs.declared.Found.{Found}
use Rattle.lookup.proofs.Refusals.{glyph_of_refusals}
use Rattle.names.specs.Names.{name_of, said_named}
use Rattle.names.specs.declared.Named.{Named}
use Rattle.names.proofs.Refusals.{name_in_data}
use Rattle.bitmaps.specs.Picture.{no_bitmap, unreadable, rows_short}
use Rattle.place.specs.Bounds.{bounds_of}
use Rattle.place.specs.Info.{info_in, of_placing, said_prepared}
use Rattle.place.specs.declared.GlyphInfo.{GlyphInfo}
use Rattle.place.specs.declared.Prepared.{Prepared}
use Rattle.place.proofs.Refusals.{info_of_refusals}
use Rattle.frames.specs.Whole.{when_named, whole_box, when_placed, when_found, whole_glyph}
use Rattle.frames.specs.Frames.{frame}
use Rattle.frames.specs.Put.{line_into, glyph_into, refused_line, refused_into, of_frames, said_printed}

line_numbered : (line : List ℕ) (room : ℕ) → NumberedBy (15 ∷ []) (said_printed (line_into line room))
line_numbered line room = whichever said_printed (ltb room (length line)) (has_number refl) has_values

pub put_refused_refusals : (n room : ℕ) → NumberedBy (15 ∷ []) (said_printed (refused_into n room))
unfolding refused_into
put_refused_refusals n room = whichever said_printed (ltb 99 n) (has_number refl) (line_numbered (refused_line n) room)

named_numbered : (x : Named) (i : GlyphInfo) → NumberedBy (17 ∷ 18 ∷ []) (said_named x) → NumberedBy of_frames (said_prepared (when_named x (Prepared.Info i)))
named_numbered (Named.Name p) i h = has_values
named_numbered (Named.Refused r) i h = wider refl h

module _ (s : List ℕ) (rec : Record) (fits : record_fits (length s) rec ≡ true) where
  box_numbered : (i : GlyphInfo) → NumberedBy of_frames (said_prepared (whole_box s rec i))
  unfolding whole_box
  box_numbered i =
      let b = rec.bitmaps in
      let g = i.glyph.0 in
      whichever said_prepared (no_bitmap b g) (has_number refl)
      (whichever said_prepared (unreadable b) (has_number refl)
      (whichever said_prepared (rows_short s b g i.width i.height) (has_number refl)
      (named_numbered (name_of s rec.names g) i (name_in_data s rec.names g (name_strings (length s) rec fits)))))

  placed_numbered : (x : Prepared) → NumberedBy of_placing (said_prepared x) → NumberedBy of_frames (said_prepared (when_placed s rec x))
  placed_numbered (Prepared.Info i) h = box_numbered i
  placed_numbered (Prepared.Refused r) h = wider refl h

  glyph_numbered : (code : ℕ) → NumberedBy of_frames (said_prepared (whole_glyph s rec code))
  unfolding whole_glyph
  glyph_numbered code = by (glyph_of s rec.codes code) (glyph_of_refusals s rec.codes code) where
    by : (x : Found) → NumberedBy (9 ∷ []) (said_found x) → NumberedBy of_frames (said_prepared (when_found s rec x))
    by (Found.Glyph g) h = placed_numbered (info_in s rec g) (info_of_refusals s rec.metrics (bounds_of rec) g)
    by (Found.Refused r) h = wider refl h

  into_numbered : (code room : ℕ) (x : Prepared) → NumberedBy of_frames (said_prepared x) → NumberedBy of_frames (said_printed (glyph_into s rec code room x))
  into_numbered code room (Prepared.Info i) h = wider refl (line_numbered (frame s rec code i) room)
  into_numbered code room (Prepared.Refused r) h = h

  pub frame_numbered : (code room : ℕ) → NumberedBy of_frames (said_printed (glyph_into s rec code room (whole_glyph s rec code)))
  frame_numbered code room = into_numbered code room (whole_glyph s rec code) (glyph_numbered code)

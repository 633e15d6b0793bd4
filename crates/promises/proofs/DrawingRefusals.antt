-- The numbers of each call that draws or unpacks a glyph, or draws a text, in the same way.
use mathlib.Core.Path.{◌≡◌, refl}
use mathlib.Core.Bool.{cond, ◌&&◌}
use mathlib.Core.List.{List, [], ◌∷◌, ◌++◌}
use Prim.Native.Nat.{ℕ, ◌+◌}
use lib.Dec.{eqb}
use Rattle.reads.specs.Said.{Said, refusal, NumberedBy}
use Rattle.reads.proofs.Numbers.{has_values, has_number, whichever, wider, one_more}
use Rattle.tables.specs.Fits.{ladder, permitted}
use Rattle.tables.specs.declared.BitmapData.{BitmapData}
use Rattle.tables.specs.declared.Permit.{Permit}
use Rattle.tables.specs.declared.Record.{Record}
use Rattle.modes.specs.declared.Mode.{Mode}
use Rattle.lookup.specs.Served.{served}
use Rattle.lookup.specs.declared.Served.{Served}
use Rattle.lookup.specs.declared.Supplier.{Supplier}
use Rattle.bitmaps.specs.Place.{Place, place_at}
use Rattle.bitmaps.specs.Limits.{ok_place, ok_pair}
use Rattle.bitmaps.specs.Cut.{drawn_rows}
use Rattle.bitmaps.specs.Picture.{no_bitmap, unreadable, rows_short, pixel_past}
use Rattle.bitmaps.specs.Draw.{shown_at, bitmap_ready, draw_bitmap, said_drawn}
use Rattle.bitmaps.specs.Unpack.{unscaled, whole_columns, unpacked_at, said_unpacked}
use Rattle.bitmaps.specs.declared.Drawn.{Drawn}
use Rattle.bitmaps.specs.declared.Unpacked.{Unpacked}
use Rattle.place.specs.Bounds.{bounds_of, bounds_hold}
use Rattle.place.specs.Info.{info_in, prepared_in, of_placing, said_prepared, said_char_prepared}
use Rattle.place.specs.declared.GlyphInfo.{GlyphInfo}
use Rattle.place.specs.declared.CharPrepared.{CharPrepared}
use Rattle.place.specs.declared.Prepared.{Prepared}
use Rattle.place.proofs.Refusals.{info_of_refusals, char_info_refusals}
use Rattle.glyphs.specs.Glyph.{place_of, ok_info, glyph_drawn, glyph_ready, draw_glyph}
use Rattle.glyphs.specs.Char.{with_info, char_of, char_ready, draw_char, said_char}
use Rattle.glyphs.specs.Unpack.{glyph_unpacked, unpack_glyph}
use Rattle.utf8.specs.Decode.{Char, decoded, chars_of, checked_text}
use Rattle.utf8.specs.declared.Checked.{Checked}
use Rattle.utf8.proofs.CheckedText.{refused_text}
use Rattle.text.specs.Walk.{origin, place_info, place_served, placed, placed_drawn, pen_after}
use Rattle.text.specs.Text.{after_char, text_from, ready_text, ready, when_ready, draw_string, said_text}
use Rattle.text.specs.declared.Layout.{Layout}
use Rattle.text.specs.declared.Pen.{Pen}
use Rattle.text.specs.declared.Placed.{Placed}
use Rattle.text.specs.declared.Ready.{Ready}
use Rattle.text.specs.declared.TextDrawn.{TextDrawn}
use Rattle.promises.specs.Refusals.{of_drawing, Refusals}
use Rattle.promises.proofs.RecordTest.{guarded_refusals}

-- past the tests

shown_at_refusals : (s : List ℕ) (b : BitmapData) (g width height len : ℕ) (at : Place)
    → NumberedBy of_drawing (said_drawn (shown_at s b g width height len at))
unfolding shown_at
shown_at_refusals s b g width height len at =
    let n = drawn_rows len at height in
    whichever said_drawn (unreadable b) (has_number refl)
    (whichever said_drawn (rows_short s b g width n) (has_number refl)
    (whichever said_drawn (pixel_past s b g width width at n len) (has_number refl) has_values))

glyph_drawn_refusals : (s : List ℕ) (b : BitmapData) (i : GlyphInfo) (len : ℕ) (at : Place)
    → NumberedBy of_drawing (said_drawn (glyph_drawn s b i len at))
unfolding glyph_drawn
glyph_drawn_refusals s b i len at =
    whichever said_drawn (no_bitmap b i.glyph.0) has_values (shown_at_refusals s b i.glyph.0 i.width i.height len (place_of i at))

-- a text's characters

module _ (s : List ℕ) (rec : Record) (mode : Mode) (lay : Layout) (len : ℕ) where
  abbrev said_placed : Placed → Said
  said_placed p = said_drawn (placed_drawn s rec lay len p)

  place_info_lem : (pen : Pen) (x : Prepared) → NumberedBy of_placing (said_prepared x) → NumberedBy (of_placing ++ of_drawing) (said_placed (place_info rec lay pen x))
  unfolding placed_drawn
  place_info_lem pen (Prepared.Info i) h = wider refl (glyph_drawn_refusals s rec.bitmaps i len _)
  place_info_lem pen (Prepared.Refused r) h = has_number (wider {ms = of_placing ++ of_drawing} refl h).is

  placed_refusals : (code : ℕ) (pen : Pen) → NumberedBy (of_placing ++ of_drawing) (said_placed (placed s rec mode lay code pen))
  unfolding placed placed_drawn
  placed_refusals code pen =
      whichever said_placed (eqb code 13) has_values (whichever said_placed (eqb code 10) has_values (by (served s rec.codes mode code))) where
        by : (x : Served) → NumberedBy (of_placing ++ of_drawing) (said_placed (place_served s rec lay pen x))
        by (Served.Glyph g p) = place_info_lem pen (info_in s rec g) (info_of_refusals s rec.metrics (bounds_of rec) g)
        by (Served.Refused r) = has_values

  after_char_lem : (x : Drawn) (byte : ℕ) (rest : ℕ → TextDrawn) → NumberedBy (of_placing ++ of_drawing) (said_drawn x)
      → ((n : ℕ) → NumberedBy (of_placing ++ of_drawing) (said_text (rest n))) → NumberedBy (of_placing ++ of_drawing) (said_text (after_char x byte rest))
  after_char_lem (Drawn.Rows r) byte rest h k = k r.dropped
  after_char_lem (Drawn.Refused r) byte rest h k = has_number h.is

  text_refusals : (cs : List Char) (pen : Pen) (dropped : ℕ) → NumberedBy (of_placing ++ of_drawing) (said_text (text_from s rec mode lay len cs pen dropped))
  unfolding text_from
  text_refusals [] pen dropped = has_values
  text_refusals (c ∷ cs) pen dropped =
      let p = placed s rec mode lay c.code pen in
      after_char_lem (placed_drawn s rec lay len p) c.byte (λ n. text_from s rec mode lay len cs (pen_after lay p pen) (dropped + n))
      (placed_refusals c.code pen) (λ n. text_refusals cs (pen_after lay p pen) (dropped + n))

-- the calls

module _ (s : List ℕ) (rec : Record) where
  module _ (g width height len : ℕ) (at : Place) where
    -- what the tests before a drawing say, with it
    abbrev said_bitmap : Permit → Said
    said_bitmap x = said_drawn (permitted Drawn.Refused x (shown_at s rec.bitmaps g width height len at))

    pub draw_bitmap_refusals : Refusals s rec (6 ∷ 15 ∷ 12 ∷ of_drawing) (said_drawn (draw_bitmap s rec g width height len at))
    unfolding draw_bitmap bitmap_ready
    draw_bitmap_refusals =
        guarded_refusals s rec said_bitmap Permit.Refused (λ r. refl) (ok_place at && ok_pair width height)
        (cond (no_bitmap rec.bitmaps g) (Permit.Refused (refusal 12 0)) Permit.Given) refl
        (λ fits. whichever said_bitmap (no_bitmap rec.bitmaps g) (has_number refl) (one_more (shown_at_refusals s rec.bitmaps g width height len at)))

  module _ (mode : Mode) (i : GlyphInfo) (len : ℕ) where
    module _ (at : Place) where
      abbrev said_glyph : Permit → Said
      said_glyph x = said_drawn (permitted Drawn.Refused x (glyph_drawn s rec.bitmaps i len at))

      pub draw_glyph_refusals : Refusals s rec (6 ∷ 15 ∷ of_drawing) (said_drawn (draw_glyph s rec mode i len at))
      unfolding draw_glyph glyph_ready ladder
      draw_glyph_refusals =
          guarded_refusals s rec said_glyph Permit.Refused (λ r. refl) (ok_place at && ok_info mode i) Permit.Given refl
          (λ fits. glyph_drawn_refusals s rec.bitmaps i len at)

    module _ (start stride : ℕ) where
      abbrev said_unpack : Permit → Said
      said_unpack x = said_unpacked (permitted Unpacked.Refused x (glyph_unpacked s rec.bitmaps i len start stride))

      glyph_unpacked_refusals : NumberedBy of_drawing (said_unpacked (glyph_unpacked s rec.bitmaps i len start stride))
      unfolding glyph_unpacked unpacked_at
      glyph_unpacked_refusals =
          let b = rec.bitmaps in
          let g = i.glyph.0 in
          let at = place_of i (unscaled start stride) in
          whichever said_unpacked (no_bitmap b g) has_values
          (whichever said_unpacked (unreadable b) (has_number refl)
          (whichever said_unpacked (rows_short s b g i.width i.height) (has_number refl)
          (whichever said_unpacked (pixel_past s b g i.width (whole_columns i.width) at i.height len) (has_number refl) has_values)))

      pub unpack_glyph_refusals : Refusals s rec (6 ∷ 15 ∷ of_drawing) (said_unpacked (unpack_glyph s rec mode i len start stride))
      unfolding unpack_glyph glyph_ready ladder
      unpack_glyph_refusals =
          guarded_refusals s rec said_unpack Permit.Refused (λ r. refl) (ok_place (unscaled start stride) && ok_info mode i) Permit.Given refl
          (λ fits. glyph_unpacked_refusals)

  module _ (mode : Mode) (code len : ℕ) (at : Place) where
    abbrev said_with : CharPrepared → Said
    said_with x = said_char (with_info x (λ i by. char_of i by (glyph_drawn s rec.bitmaps i len at)))

    drawn_char : (i : GlyphInfo) (by : Supplier) (x : Drawn) → NumberedBy of_drawing (said_drawn x)
        → NumberedBy (9 ∷ (of_placing ++ of_drawing)) (said_char (char_of i by x))
    drawn_char i by (Drawn.Rows r) h = has_values
    drawn_char i by (Drawn.Refused r) h = wider refl h

    placed_char : (x : CharPrepared) → NumberedBy (9 ∷ of_placing) (said_char_prepared x) → NumberedBy (9 ∷ (of_placing ++ of_drawing)) (said_with x)
    placed_char (CharPrepared.Info i by) h = drawn_char i by (glyph_drawn s rec.bitmaps i len at) (glyph_drawn_refusals s rec.bitmaps i len at)
    placed_char (CharPrepared.Refused r) h = wider refl h

    pub draw_char_refusals : Refusals s rec (6 ∷ 15 ∷ 9 ∷ (of_placing ++ of_drawing)) (said_char (draw_char s rec mode code len at))
    unfolding draw_char char_ready
    draw_char_refusals =
        guarded_refusals s rec said_with CharPrepared.Refused (λ r. refl) (ok_place at) (prepared_in s rec mode code) refl
        (λ fits. placed_char (prepared_in s rec mode code) (char_info_refusals s rec.codes mode rec.metrics (bounds_of rec) code))

  module _ (mode : Mode) (text : List ℕ) (len : ℕ) (lay : Layout) where
    -- what the tests before the first character say, with the rest
    abbrev said_ready : Ready → Said
    said_ready x = said_text (when_ready x (text_from s rec mode lay len (chars_of (decoded text)) origin 0))

    checked_refusals : (a : Checked) → checked_text text ≡ a → NumberedBy (19 ∷ 11 ∷ (of_placing ++ of_drawing)) (said_ready (ready_text rec lay a))
    checked_refusals Checked.Whole e =
        whichever said_ready (bounds_hold (bounds_of rec)) (wider refl (text_refusals s rec mode lay len (chars_of (decoded text)) origin 0)) (has_number refl)
    checked_refusals (Checked.Refused r) e = has_number (rw (refused_text text r e).0 refl)

    pub draw_string_refusals : Refusals s rec (6 ∷ 15 ∷ 19 ∷ 11 ∷ (of_placing ++ of_drawing)) (said_text (draw_string s rec mode text len lay))
    unfolding draw_string ready
    draw_string_refusals =
        guarded_refusals s rec said_ready Ready.Refused (λ r. refl) (ok_place (place_at lay.start lay.stride lay.scale))
        (ready_text rec lay (checked_text text)) refl (λ fits. checked_refusals (checked_text text) refl)

-- What drawing a glyph, drawing a character and unpacking a glyph answer, by the tests that the code makes.
use Prim.Native.Nat.{ℕ, ◌<◌, ◌^◌, min}
use mathlib.Core.Path.{◌≡◌, refl, sym, ap, ◌∙◌}
use mathlib.Core.Bool.{Bool, true, false, cond, ◌&&◌}
use mathlib.Core.List.{List}
use native.Mathlib.Omega.{arith}
use lib.ListN.{length}
use mir.Syntax.{w8, w16}
use mir.Val.{Fits}
use Rattle.reads.specs.Said.{refusal}
use Rattle.reads.specs.declared.Refusal.{Refusal}
use Rattle.reads.proofs.Tests.{both}
use Rattle.tables.specs.Fits.{record_fits, guard}
use Rattle.tables.proofs.Guarded.{given_passes, guarded_answers, guarded_refuses}
use Rattle.tables.specs.declared.BitmapData.{BitmapData}
use Rattle.tables.specs.declared.Permit.{Permit}
use Rattle.tables.specs.declared.Record.{Record}
use Rattle.modes.specs.declared.Mode.{Mode}
use Rattle.lookup.specs.declared.Supplier.{Supplier}
use Rattle.bitmaps.specs.Place.{Place, place_at}
use Rattle.bitmaps.specs.Limits.{ok_place}
use Rattle.bitmaps.specs.Picture.{no_bitmap}
use Rattle.bitmaps.specs.Draw.{shown_at, shown_leaves}
use Rattle.bitmaps.specs.Unpack.{unscaled, unpacked_at, unpacked_leaves}
use Rattle.bitmaps.specs.declared.Drawn.{Drawn}
use Rattle.bitmaps.specs.declared.Unpacked.{Unpacked}
use Rattle.outcome.proofs.WithinLimits.{place_limits}
use Rattle.place.specs.Info.{prepared_in}
use Rattle.place.specs.declared.GlyphInfo.{GlyphInfo}
use Rattle.place.specs.declared.CharPrepared.{CharPrepared}
use Rattle.glyphs.specs.Glyph.{place_of, ok_info, nothing_drawn, glyph_drawn, glyph_ready, draw_glyph}
use Rattle.glyphs.specs.Char.{char_of, char_ready, draw_char}
use Rattle.glyphs.specs.Unpack.{glyph_unpacked, unpack_glyph, unpack_leaves}
use Rattle.glyphs.specs.declared.CharDrawn.{CharDrawn}
use Rattle.glyphs.proofs.Far.{capped_shown, capped_leaves, near_place}

-- ---- the tests before a placed glyph, and what follows from a permit: its numbers are within their limits

pub glyph_tested : (s : List ℕ) (rec : Record) (mode : Mode) (i : GlyphInfo) (at : Place) (place info : Bool) (permit : Permit)
    → place ≡ ok_place at → info ≡ ok_info mode i → permit ≡ guard s rec (place && info) → permit ≡ glyph_ready s rec mode i at
unfolding glyph_ready
glyph_tested s rec mode i at place info permit place_is info-is is = rw (← place_is, ← info-is) is

module _ (s : List ℕ) (rec : Record) (mode : Mode) (i : GlyphInfo) (start stride scale : ℕ) (permit : Permit)
    (permit-is : permit ≡ glyph_ready s rec mode i (place_at start stride scale)) (given : permit ≡ Permit.Given) where
  within_limits : (ok_place (place_at start stride scale) ≡ true) × (ok_info mode i ≡ true)
  unfolding glyph_ready
  within_limits =
      let at = place_at start stride scale in
      both (ok_place at) (ok_info mode i) (given_passes s rec (ok_place at && ok_info mode i) permit permit-is given).1

  pub stride_fits : Fits w16 stride
  stride_fits = omega (arith, place_limits start stride scale within_limits.0)

  pub scale_fits : Fits w8 scale
  scale_fits = omega (arith, place_limits start stride scale within_limits.0)

-- ---- a placed glyph, with no test of the record

module _ (s : List ℕ) (b : BitmapData) (i : GlyphInfo) (none : Bool) (none_is : none ≡ no_bitmap b i.glyph.0) where
  pub drawn_none : (len : ℕ) (at : Place) → none ≡ true → nothing_drawn ≡ glyph_drawn s b i len at
  unfolding glyph_drawn
  drawn_none len at e = rw (← none_is, e)

  module _ (start stride scale p : ℕ) (p-is : p ≡ min 18446744073709551615 (place_of i (place_at start stride scale)).p) where
    pub drawn_there : (len : ℕ) (r : Drawn) → none ≡ false → len < 2 ^ 64
        → r ≡ shown_at s b i.glyph.0 i.width i.height len (place_at p stride scale) → r ≡ glyph_drawn s b i len (place_at start stride scale)
    unfolding glyph_drawn
    drawn_there len r e h is =
        let there = (place_of i (place_at start stride scale)).p in
        rw (← none_is, e)
        (is ∙ rw p-is (capped_shown s b i.glyph.0 i.width stride scale 18446744073709551615 there i.height len (omega arith)))

pub leaves_there : (s : List ℕ) (b : BitmapData) (i : GlyphInfo) (start stride scale p colour : ℕ) (r : Drawn) (old new : List ℕ)
    → p ≡ min 18446744073709551615 (place_of i (place_at start stride scale)).p → length old < 2 ^ 64
    → new ≡ shown_leaves s b i.glyph.0 i.width (place_at p stride scale) colour r old
    → new ≡ shown_leaves s b i.glyph.0 i.width (place_of i (place_at start stride scale)) colour r old
leaves_there s b i start stride scale p colour r old new p-is h is =
    let there = (place_of i (place_at start stride scale)).p in
    is ∙ rw p-is (capped_leaves s b i.glyph.0 i.width stride scale 18446744073709551615 there colour r old (omega arith))

-- ---- a record and a character

-- only an answer that passed both tests places a glyph
placed_within : (fits within : Bool) (q : CharPrepared) (i : GlyphInfo) (by : Supplier)
    → cond fits (cond within q (CharPrepared.Refused (refusal 15 0))) (CharPrepared.Refused (refusal 6 0)) ≡ CharPrepared.Info i by → within ≡ true
placed_within true true q i by e = refl
placed_within true false q i by e = let z : ◌≡◌ {A = ℕ} 0 1 = cc in absurd (omega arith)
placed_within false within q i by e = let z : ◌≡◌ {A = ℕ} 0 1 = cc in absurd (omega arith)

module _ (s : List ℕ) (rec : Record) (mode : Mode) (code : ℕ) (at : Place) (place : Bool) (permit : Permit) (place_is : place ≡ ok_place at)
    (permit-is : permit ≡ guard s rec place) where
  pub ready_placed : (r : CharPrepared) → permit ≡ Permit.Given → r ≡ prepared_in s rec mode code → r ≡ char_ready s rec mode code at
  unfolding char_ready
  ready_placed r e is = rw (← place_is) (is ∙ sym (guarded_answers s rec place permit permit-is CharPrepared.Refused (prepared_in s rec mode code) e))

  pub ready_refused : (r : Refusal) → permit ≡ Permit.Refused r → CharPrepared.Refused r ≡ char_ready s rec mode code at
  unfolding char_ready
  ready_refused r e = rw (← place_is) (sym (guarded_refuses s rec place permit permit-is CharPrepared.Refused (prepared_in s rec mode code) r e))

module _ (s : List ℕ) (rec : Record) (mode : Mode) (code start stride scale : ℕ) (ready : CharPrepared)
    (ready-is : ready ≡ char_ready s rec mode code (place_at start stride scale)) (i : GlyphInfo) (by : Supplier) (e : ready ≡ CharPrepared.Info i by) where
  char_within : ok_place (place_at start stride scale) ≡ true
  unfolding char_ready
  char_within =
      placed_within (record_fits (length s) rec) (ok_place (place_at start stride scale)) (prepared_in s rec mode code) i by (sym ready-is ∙ e)

  pub char_stride_fits : Fits w16 stride
  char_stride_fits = omega (arith, place_limits start stride scale char_within)

  pub char_scale_fits : Fits w8 scale
  char_scale_fits = omega (arith, place_limits start stride scale char_within)

module _ (s : List ℕ) (rec : Record) (mode : Mode) (code len : ℕ) (at : Place) (ready : CharPrepared) (ready-is : ready ≡ char_ready s rec mode code at) where
  pub char_none : (r : Refusal) → ready ≡ CharPrepared.Refused r → CharDrawn.Refused r ≡ draw_char s rec mode code len at
  unfolding draw_char
  char_none r e = rw (← ready-is, e) refl

  pub char_drawn : (i : GlyphInfo) (by : Supplier) (drawn : Drawn) (r : CharDrawn) → ready ≡ CharPrepared.Info i by
      → drawn ≡ glyph_drawn s rec.bitmaps i len at → r ≡ char_of i by drawn → r ≡ draw_char s rec mode code len at
  unfolding draw_char
  char_drawn i by drawn r e d is = is ∙ ap (char_of i by) d ∙ rw (← ready-is, e) refl

-- ---- a record and a glyph

module _ (s : List ℕ) (rec : Record) (mode : Mode) (i : GlyphInfo) (len : ℕ) (at : Place) (permit : Permit) (permit-is : permit ≡ glyph_ready s rec mode i at) where
  pub glyph_refused : (r : Refusal) → permit ≡ Permit.Refused r → Drawn.Refused r ≡ draw_glyph s rec mode i len at
  unfolding draw_glyph
  glyph_refused r e = rw (← permit-is, e) refl

  pub glyph_drawn_lem : (r : Drawn) → permit ≡ Permit.Given → r ≡ glyph_drawn s rec.bitmaps i len at → r ≡ draw_glyph s rec mode i len at
  unfolding draw_glyph
  glyph_drawn_lem r e is = is ∙ rw (← permit-is, e) refl

-- ---- a record and a glyph to unpack

module _ (s : List ℕ) (rec : Record) (mode : Mode) (i : GlyphInfo) (start stride : ℕ) (permit : Permit)
    (permit-is : permit ≡ glyph_ready s rec mode i (place_at start stride 1)) where
  module _ (len : ℕ) where
    pub unpack_refused : (r : Refusal) → permit ≡ Permit.Refused r → Unpacked.Refused r ≡ unpack_glyph s rec mode i len start stride
    unfolding unpack_glyph
    unpack_refused r e = rw (← permit-is, e) refl

    unpacks : permit ≡ Permit.Given → glyph_unpacked s rec.bitmaps i len start stride ≡ unpack_glyph s rec mode i len start stride
    unfolding unpack_glyph
    unpacks given = rw (← permit-is, given) refl

  module _ (given : permit ≡ Permit.Given) where
    module _ (len : ℕ) (none : Bool) (none_is : none ≡ no_bitmap rec.bitmaps i.glyph.0) where
      pub unpack_none : none ≡ true → Unpacked.Rows 0 ≡ unpack_glyph s rec mode i len start stride
      unfolding glyph_unpacked
      unpack_none e = rw (← none_is, e) at (unpacks len given)

      unpacks_there : none ≡ false
          → unpacked_at s rec.bitmaps i.glyph.0 i.width i.height len (place_of i (unscaled start stride)).p stride
          ≡ unpack_glyph s rec mode i len start stride
      unfolding glyph_unpacked
      unpacks_there e = rw (← none_is, e) at (unpacks len given)

    module _ (p : ℕ) (p-is : p ≡ min 18446744073709551615 (place_of i (place_at start stride 1)).p) where
      there : p ≡ (place_of i (unscaled start stride)).p
      there =
          let tests = within_limits s rec mode i start stride 1 permit permit-is given in
          let l = place_limits start stride 1 tests.0 in
          p-is ∙ near_place mode i start stride 1 l.0 l.2 (omega arith) tests.1

      pub unpack_there : (len : ℕ) (none : Bool) (r : Unpacked) → none ≡ no_bitmap rec.bitmaps i.glyph.0 → none ≡ false
          → r ≡ unpacked_at s rec.bitmaps i.glyph.0 i.width i.height len p stride → r ≡ unpack_glyph s rec mode i len start stride
      unpack_there len none r none_is e is = (is ∙ rw there refl) ∙ unpacks_there len none none_is e

      pub unpack_leaves_lem : (r : Unpacked) (old new : List ℕ) → new ≡ unpacked_leaves s rec.bitmaps i.glyph.0 i.width p stride r old
          → new ≡ unpack_leaves s rec i start stride r old
      unpack_leaves_lem r old new is = rw (← there) is

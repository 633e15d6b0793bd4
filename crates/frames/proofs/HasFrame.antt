-- What is known of a code that has a frame.
use Prim.Native.Nat.{ℕ, ◌<◌}
use mathlib.Core.Path.{◌≡◌, refl, sym, subst, ◌∙◌}
use mathlib.Core.Bool.{false}
use mathlib.Core.List.{List}
use mathlib.Core.Logic.{inr}
use native.Mathlib.Omega.{arith}
use lib.Dec.{ltb}
use lib.ListN.{length}
use borrow.Author.Tests.{ltb-true, ltb-false}
use Rattle.reads.specs.Said.{refusal}
use Rattle.reads.specs.declared.Refusal.{Refusal}
use Rattle.reads.proofs.Tests.{split}
use Rattle.tables.specs.Fits.{record_fits}
use Rattle.tables.specs.declared.Record.{Record}
use Rattle.lookup.specs.Lookup.{glyph_of}
use Rattle.lookup.specs.declared.Found.{Found}
use Rattle.lookup.proofs.OutsideRange.{Outside, outside_none, range_end}
use Rattle.names.specs.Names.{name_of}
use Rattle.names.specs.declared.Named.{Named}
use Rattle.bitmaps.specs.Picture.{no_bitmap, unreadable, rows_short}
use Rattle.place.specs.Info.{info_in}
use Rattle.place.specs.declared.GlyphInfo.{GlyphInfo}
use Rattle.place.specs.declared.Prepared.{Prepared}
use Rattle.frames.specs.Frames.{frame_info, frame_of}
use Rattle.frames.specs.Whole.{when_named, whole_box, when_placed, when_found, whole_glyph}
use Rattle.frames.specs.Put.{line_into, glyph_into, frame_into}
use Rattle.frames.specs.declared.Printed.{Printed}

-- ---- where there is a frame

no_info_lem : (r : Refusal) (i : GlyphInfo) → Prepared.Refused r ≡ Prepared.Info i → ⊥
no_info_lem r i e = let z : ◌≡◌ {A = ℕ} 0 1 = cc in omega arith

module _ (s : List ℕ) (rec : Record) where
  -- 14 does not occur over all rows of this placed glyph
  abbrev pub InData : GlyphInfo → Type 0
  InData i = rows_short s rec.bitmaps i.glyph.0 i.width i.height ≡ false

  named_in : (x : Named) (j i : GlyphInfo) → when_named x (Prepared.Info j) ≡ Prepared.Info i → InData j → InData i
  named_in (Named.Name p) j i e h = let box : j ≡ i = cc in subst InData box h
  named_in (Named.Refused r) j i e h = absurd (no_info_lem r i e)

  box_in : (j i : GlyphInfo) → whole_box s rec j ≡ Prepared.Info i → InData i
  unfolding whole_box
  box_in j i e =
      split (no_bitmap rec.bitmaps j.glyph.0) (λ t. absurd (no_info_lem (refusal 12 0) i (rw t at e)))
      (λ t. split (unreadable rec.bitmaps) (λ u. absurd (no_info_lem (refusal 13 0) i (rw (t, u) at e)))
      (λ u. split (rows_short s rec.bitmaps j.glyph.0 j.width j.height) (λ v. absurd (no_info_lem (refusal 14 0) i (rw (t, u, v) at e)))
      (λ v. named_in (name_of s rec.names j.glyph.0) j i (rw (t, u, v) at e) v)))

  placed_in : (x : Prepared) (i : GlyphInfo) → when_placed s rec x ≡ Prepared.Info i → InData i
  placed_in (Prepared.Info j) i e = box_in j i e
  placed_in (Prepared.Refused r) i e = absurd (no_info_lem r i e)

  found_in : (x : Found) (i : GlyphInfo) → when_found s rec x ≡ Prepared.Info i → InData i
  found_in (Found.Glyph g) i e = placed_in (info_in s rec g) i e
  found_in (Found.Refused r) i e = absurd (no_info_lem r i e)

  module _ (code : ℕ) where
    pub whole_rows : (i : GlyphInfo) → whole_glyph s rec code ≡ Prepared.Info i → InData i
    unfolding whole_glyph
    whole_rows i e = found_in (glyph_of s rec.codes code) i e

    -- a code outside the table's range has none
    pub outside_whole : Outside rec.codes code → whole_glyph s rec code ≡ Prepared.Refused (refusal 9 0)
    unfolding whole_glyph
    outside_whole out = rw (outside_none rec.codes code s out) refl

    module _ (whole : Prepared) (i : GlyphInfo) (whole_is : whole ≡ whole_glyph s rec code) (e : whole ≡ Prepared.Info i) where
      -- its code has four hexadecimal digits
      pub whole_small : code < 65536
      whole_small =
          split (ltb 65535 code)
          (λ t.
          let far = outside_whole (inr (omega (arith, ltb-true 65535 code t, range_end rec.codes))) in
          absurd (no_info_lem (refusal 9 0) i (sym far ∙ sym whole_is ∙ e)))
          (λ t. omega (arith, ltb-false 65535 code t))

-- ---- an answer that is no refusal is that of the code's line

module _ (s : List ℕ) (rec : Record) (code room n : ℕ) where
  glyph_line : (x : Prepared) → glyph_into s rec code room x ≡ Printed.Bytes n → glyph_into s rec code room x ≡ line_into (frame_info s rec code x) room
  glyph_line (Prepared.Info i) e = refl
  glyph_line (Prepared.Refused r) e = absurd (let z : ◌≡◌ {A = ℕ} 0 1 = cc in omega arith)

  pub frame_line : frame_into s rec code room ≡ Printed.Bytes n → frame_into s rec code room ≡ line_into (frame_of s rec code) room
  unfolding frame_into frame_of
  frame_line e =
      split (record_fits (length s) rec) (λ t. rw t (glyph_line (whole_glyph s rec code) (rw t at e)))
      (λ t. absurd (let d : Printed.Refused (refusal 6 0) ≡ Printed.Bytes n = rw t at e in let z : ◌≡◌ {A = ℕ} 0 1 = cc in omega arith))

-- A frame lacks what vetting finds fault with: in a font that passed every code with a glyph has a frame, so that 9 is the one refusal left.
use Prim.Native.Nat.{ℕ, ◌+◌, ◌*◌, ◌≤◌}
use mathlib.Core.Path.{◌≡◌, refl, ap, ◌∙◌}
use mathlib.Core.Bool.{true, false}
use mathlib.Core.List.{List}
use native.Mathlib.Omega.{arith}
use lib.ListN.{length}
use borrow.Author.Tests.{le-ltb}
use Rattle.reads.specs.declared.Refusal.{Refusal}
use Rattle.reads.proofs.Tests.{split}
use Rattle.tables.specs.Fits.{record_fits}
use Rattle.tables.specs.declared.Record.{Record}
use Rattle.load.proofs.Serves.{loaded_serves}
use Rattle.lookup.specs.Lookup.{glyph_of}
use Rattle.lookup.specs.declared.Found.{Found}
use Rattle.lookup.proofs.Refusals.{no_glyph_nine}
use Rattle.names.specs.Names.{name_of}
use Rattle.names.specs.declared.Named.{Named}
use Rattle.metrics.specs.Measure.{glyph_metrics}
use Rattle.bitmaps.specs.Picture.{no_bitmap, unreadable, rows_short}
use Rattle.place.specs.Bounds.{bounds_of}
use Rattle.place.specs.Info.{box_of, said_prepared}
use Rattle.place.specs.declared.GlyphInfo.{GlyphInfo}
use Rattle.place.specs.declared.Prepared.{Prepared}
use Rattle.vet.specs.Vet.{name_fault, box_fault, vetted}
use Rattle.vet.specs.declared.Vetted.{Vetted}
use Rattle.vet.proofs.PassedCodes.{passed_usable, usable_info}
use Rattle.vet.proofs.Verdict.{passes_when}
use Rattle.frames.specs.Frames.{frame}
use Rattle.frames.specs.Whole.{when_named, whole_box, whole_glyph}
use Rattle.frames.specs.Put.{glyph_into, frame_into}
use Rattle.frames.specs.declared.Printed.{Printed}
use Rattle.frames.proofs.FrameRoom.{frame_room}

-- where rows can be read at all (13), of a placed glyph the two find the same
module _ (s : List ℕ) (rec : Record) (i : GlyphInfo) (readable : unreadable rec.bitmaps ≡ false) where
  named_alike : (n : Named) → (said_prepared (when_named n (Prepared.Info i))).number ≡ name_fault n
  named_alike (Named.Name p) = refl
  named_alike (Named.Refused r) = refl

  pub lack_is_fault : (said_prepared (whole_box s rec i)).number ≡ box_fault s rec i
  unfolding whole_box box_fault
  lack_is_fault =
      let b = rec.bitmaps in
      let g = i.glyph.0 in
      rw readable
      (split (no_bitmap b g) (λ t. rw t refl)
      (λ t. split (rows_short s b g i.width i.height) (λ u. rw (t, u) refl) (λ u. rw (t, u) (named_alike (name_of s rec.names g)))))

-- a code whose frame would lack something has no glyph
pub passed_whole : (s : List ℕ) (rec : Record) → vetted s ≡ Vetted.Passed rec
    → (code : ℕ) (r : Refusal) → whole_glyph s rec code ≡ Prepared.Refused r → glyph_of s rec.codes code ≡ Found.Refused r
unfolding whole_glyph whole_box
passed_whole s rec passed code r e = by (glyph_of s rec.codes code) refl where
  by : (x : Found) → glyph_of s rec.codes code ≡ x → x ≡ Found.Refused r
  by (Found.Glyph g) found =
      let u = passed_usable s rec passed code g found in
      let readable = ((passes_when s rec).0 passed).1.readable in
      let d : Prepared.Info (box_of g (glyph_metrics s rec.metrics g.0) (bounds_of rec).ascent) ≡ Prepared.Refused r =
      rw (found, usable_info s rec g u, u.has_bitmap, readable, u.has_rows, u.is_named) at e in
      let z : ◌≡◌ {A = ℕ} 0 1 = cc in absurd (omega arith)
  by (Found.Refused q) found =
      let d : Prepared.Refused q ≡ Prepared.Refused r = rw found at e in
      let same : q ≡ r = cc in
      ap Found.Refused same

-- where there is room for a frame of so many bytes
module _ (s : List ℕ) (rec : Record) (passed : vetted s ≡ Vetted.Passed rec) (code room : ℕ) (enough : 34 + 4 * length s ≤ room) where
  fits : record_fits (length s) rec ≡ true
  fits = loaded_serves true s rec ((passes_when s rec).0 passed).0

  only_lacking : (x : Prepared) → whole_glyph s rec code ≡ x → (q : Refusal) → glyph_into s rec code room x ≡ Printed.Refused q → glyph_of s rec.codes code ≡ Found.Refused q
  only_lacking (Prepared.Info i) e q d =
      let within : length (frame s rec code i) ≤ room = omega (arith, frame_room s rec code i fits e) in
      let put : Printed.Bytes (length (frame s rec code i)) ≡ Printed.Refused q = rw (le-ltb room (length (frame s rec code i)) within) at d in
      let z : ◌≡◌ {A = ℕ} 0 1 = cc in absurd (omega arith)
  only_lacking (Prepared.Refused r) e q d =
      let same : r ≡ q = cc in
      passed_whole s rec passed code r e ∙ ap Found.Refused same

  -- a frame is refused for a code without a glyph alone
  pub passed_lacking : (q : Refusal) → frame_into s rec code room ≡ Printed.Refused q → glyph_of s rec.codes code ≡ Found.Refused q
  unfolding frame_into
  passed_lacking q e = only_lacking (whole_glyph s rec code) refl q (rw fits at e)

  pub passed_nine : (q : Refusal) → frame_into s rec code room ≡ Printed.Refused q → q.number ≡ 9
  passed_nine q e = no_glyph_nine s rec.codes code q (passed_lacking q e)

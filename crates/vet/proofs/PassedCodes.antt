-- What a pass says of every code that has a glyph: its metrics are in range, all its rows lie in the bitmap data, and it has a name.
-- And the other way: a code whose glyph is such has no fault.
use mathlib.Core.Path.{◌≡◌, refl}
use mathlib.Core.Bool.{true, false}
use mathlib.Core.List.{List}
use mathlib.Core.Logic.{inr}
use Prim.Native.Nat.{ℕ}
use native.Mathlib.Omega.{arith}
use lib.Dec.{leb, ltb}
use lib.IntN.{ℤ, nat_abs}
use borrow.Author.Tests.{ltb-true, ltb-false}
use Rattle.reads.specs.declared.GlyphIndex.{GlyphIndex}
use Rattle.reads.specs.Said.{refusal}
use Rattle.reads.proofs.Tests.{split}
use Rattle.tables.specs.declared.MetricsUnpacked.{MetricsUnpacked}
use Rattle.tables.specs.declared.Record.{Record}
use Rattle.lookup.specs.Lookup.{glyph_of}
use Rattle.lookup.specs.declared.Found.{Found}
use Rattle.lookup.proofs.OutsideRange.{outside_none, range_end}
use Rattle.names.specs.Names.{name_of}
use Rattle.names.specs.declared.Named.{Named}
use Rattle.names.specs.declared.Span.{Span}
use Rattle.names.proofs.Refusals.{name_not_0}
use Rattle.metrics.specs.Measure.{glyph_metrics, metrics_of}
use Rattle.bitmaps.specs.Picture.{no_bitmap, rows_short}
use Rattle.place.specs.Bounds.{bounds_of, height_of}
use Rattle.place.specs.Info.{placeable, box_of, info_of, info_in}
use Rattle.place.specs.declared.Prepared.{Prepared}
use Rattle.vet.specs.Vet.{box_fault, name_fault, glyph_fault, code_fault, vetted}
use Rattle.vet.specs.declared.Vetted.{Vetted}
use Rattle.vet.proofs.CodesInRange.{no_glyph_no_fault}
use Rattle.vet.proofs.Verdict.{passes_when}

-- what can be drawn and named without a refusal of the font's
pub record Usable (s : List ℕ) (rec : Record) (g : GlyphIndex) : Type 0 where
  pub is_measured : leb rec.metrics.count g.0 ≡ false
  pub in_range_lem : placeable (glyph_metrics s rec.metrics g.0) (bounds_of rec).ascent ≡ true
  pub has_bitmap : no_bitmap rec.bitmaps g.0 ≡ false
  pub has_rows : rows_short s rec.bitmaps g.0 (nat_abs (glyph_metrics s rec.metrics g.0).width) (nat_abs (height_of (glyph_metrics s rec.metrics g.0))) ≡ false
  pub name : Span
  pub is_named : name_of s rec.names g.0 ≡ Named.Name name

-- the box of such a glyph
pub usable_info : (s : List ℕ) (rec : Record) (g : GlyphIndex)
    → Usable s rec g → info_in s rec g ≡ Prepared.Info (box_of g (glyph_metrics s rec.metrics g.0) (bounds_of rec).ascent)
unfolding info_of metrics_of
usable_info s rec g u = rw (u.is_measured, u.in_range_lem) refl

module _ (s : List ℕ) (rec : Record) (g : GlyphIndex) where
  abbrev m : MetricsUnpacked
  m = glyph_metrics s rec.metrics g.0

  abbrev top : ℤ
  top = (bounds_of rec).ascent

  usable_clear : Usable s rec g → glyph_fault s rec (info_in s rec g) ≡ 0
  unfolding box_fault
  usable_clear u = rw (usable_info s rec g u, u.has_bitmap, u.has_rows, u.is_named) refl

  clear_usable : glyph_fault s rec (info_in s rec g) ≡ 0 → Usable s rec g
  unfolding info_of metrics_of box_fault
  clear_usable e =
      split (leb rec.metrics.count g.0) (λ t. absurd (let z : 10 ≡ 0 = rw t at e in omega arith))
      (λ t. split (placeable m top)
      (λ u. split (no_bitmap rec.bitmaps g.0) (λ v. absurd (let z : 12 ≡ 0 = rw (t, u, v) at e in omega arith))
      (λ v. split (rows_short s rec.bitmaps g.0 (nat_abs m.width) (nat_abs (height_of m)))
      (λ w. absurd (let z : 14 ≡ 0 = rw (t, u, v, w) at e in omega arith))
      (λ w. by (name_of s rec.names g.0) refl t u v w (rw (t, u, v, w) at e))))
      (λ u. absurd (let z : 11 ≡ 0 = rw (t, u) at e in omega arith))) where
        by : (x : Named) → name_of s rec.names g.0 ≡ x → leb rec.metrics.count g.0 ≡ false → placeable m top ≡ true
            → no_bitmap rec.bitmaps g.0 ≡ false → rows_short s rec.bitmaps g.0 (nat_abs m.width) (nat_abs (height_of m)) ≡ false
            → name_fault (name_of s rec.names g.0) ≡ 0 → Usable s rec g
        by (Named.Name p) n t u v w e = record { is_measured = t; in_range_lem = u; has_bitmap = v; has_rows = w; name = p; is_named = n }
        by (Named.Refused r) n t u v w e = absurd (name_not_0 s rec.names g.0 r n (rw n at e))

-- a code with this glyph has no fault exactly if the glyph is usable
module _ (s : List ℕ) (rec : Record) (code : ℕ) (g : GlyphIndex) (found : glyph_of s rec.codes code ≡ Found.Glyph g) where
  pub usable_code : Usable s rec g → code_fault s rec code ≡ 0
  unfolding code_fault
  usable_code u = rw found (usable_clear s rec g u)

  pub code_usable : code_fault s rec code ≡ 0 → Usable s rec g
  unfolding code_fault
  code_usable e = clear_usable s rec g (rw found at e)

-- in a font that passed every code's glyph is usable
pub passed_usable : (s : List ℕ) (rec : Record) → vetted s ≡ Vetted.Passed rec
    → (code : ℕ) (g : GlyphIndex) → glyph_of s rec.codes code ≡ Found.Glyph g → Usable s rec g
passed_usable s rec e code g found =
    code_usable s rec code g found
    (split (ltb code 65536) (λ t. ((passes_when s rec).0 e).1.codes code (omega arith) (ltb-true code 65536 t))
    (λ t. no_glyph_no_fault s rec code (refusal 9 0) (outside_none rec.codes code s (inr (omega (arith, range_end rec.codes, ltb-false code 65536 t))))))

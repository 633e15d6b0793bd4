-- With a font that passed vetting a character is not on the glass for want of a glyph, for the page's sake, or since it is blank.
use Prim.Native.Nat.{ℕ}
use mathlib.Core.Path.{◌≡◌}
use mathlib.Core.List.{List}
use native.Mathlib.Omega.{arith}
use Rattle.tables.specs.declared.Record.{Record}
use Rattle.modes.specs.declared.Mode.{Mode}
use Rattle.lookup.specs.declared.Supplier.{Supplier}
use Rattle.bitmaps.specs.Place.{Place}
use Rattle.bitmaps.proofs.CutRule.{drawn_within}
use Rattle.glyphs.specs.Glyph.{place_of}
use Rattle.vet.specs.Vet.{vetted}
use Rattle.vet.specs.declared.Vetted.{Vetted}
use Rattle.why.specs.Why.{why_of}
use Rattle.why.specs.declared.Reason.{Reason}
use Rattle.why.specs.declared.Told.{Told}
use Rattle.promises.specs.Passing.{GlyphGood}
use Rattle.promises.specs.Serving.{ShownBy}
use Rattle.promises.specs.Why.{box_in, TrueOf, OfPassed}
use Rattle.promises.proofs.Vetting.{vet_passes, passed_glyph}
use Rattle.promises.proofs.Serving.{served_exactly, supplied}
use Rattle.promises.proofs.WhyFirst.{why_first}

module _ (s : List ℕ) (rec : Record) (passed : vetted s ≡ Vetted.Passed rec) (mode : Mode) (code len : ℕ) (at : Place) where
  -- the glyph that shows a code is that of some code, and so is good
  shown_good : (g : ℕ) (by : Supplier) → ShownBy s rec mode code g by → GlyphGood s rec g
  shown_good g by shown =
      passed_glyph s rec passed by.code.0 g (supplied s rec mode code (record { 0 = g }) by ((served_exactly s rec mode code g by).1 shown))

  true_passed : (reason : Reason) → TrueOf s rec mode code len at reason → OfPassed reason
  true_passed Reason.AboveCodes w = tt
  true_passed Reason.FirstByte w = tt
  true_passed Reason.SecondByte w = tt
  true_passed Reason.EmptyEntry w = tt
  true_passed Reason.NoMetrics w = omega (arith, w.holds, (shown_good w.glyph w.by w.shown).measured)
  true_passed Reason.BadMetrics w = w.holds (shown_good w.glyph w.by w.shown).metrics
  true_passed Reason.NoBitmap w = omega (arith, w.holds, (shown_good w.glyph w.by w.shown).pictured)
  true_passed Reason.BitOrder w = w ((vet_passes s rec).0 passed).order
  true_passed Reason.BitmapShort w =
      let g = w.glyph in
      let box = box_in s rec g in
      let past = w.holds in
      let within = drawn_within len (place_of box at) box.height in
      omega (arith, past.beyond, (shown_good g w.by w.shown).rows past.r past.c (omega (arith, past.r_below, within)) past.c_below)
  true_passed Reason.BufferShort w = tt
  true_passed (Reason.RowsCut n) w = tt
  true_passed Reason.Blank w = tt
  true_passed Reason.Drawn w = tt

  -- 10 to 14 are never the reason
  pub passed_reason : (reason : Reason) (by : Supplier) → why_of s rec mode code len at ≡ Told.Because reason by → OfPassed reason
  passed_reason reason by e = let (asked, first, spoken) = (why_first s rec mode code len at reason by).0 e in true_passed reason first.is_true

-- The reason that is given is the first that is true of the font, and the first that is true is given.
use Prim.Native.Nat.{ℕ, ◌+◌, ◌-◌, ◌<◌}
use mathlib.Core.Path.{◌≡◌, refl, sym, ap, ap₂, subst, ◌∙◌}
use mathlib.Core.Bool.{Bool, true, false, cond}
use mathlib.Core.List.{List, [], ◌∷◌}
use mathlib.Core.Logic.{◌⊎◌, ◌↔◌, inl, inr}
use native.Mathlib.Omega.{arith}
use lib.Dec.{leb, ltb, eqb}
use lib.ListN.{length, get_or}
use borrow.Author.Tests.{ltb-true, ltb-false, leb-true, leb-false}
use Rattle.reads.specs.Said.{refusal}
use Rattle.reads.specs.declared.GlyphIndex.{GlyphIndex}
use Rattle.reads.specs.declared.Refusal.{Refusal}
use Rattle.reads.proofs.Tests.{never, split, choose}
use Rattle.tables.specs.Fits.{record_fits}
use Rattle.tables.specs.declared.BitmapData.{BitmapData}
use Rattle.tables.specs.declared.Record.{Record}
use Rattle.modes.specs.declared.Mode.{Mode}
use Rattle.lookup.specs.Served.{served}
use Rattle.lookup.specs.declared.Served.{Served}
use Rattle.lookup.specs.declared.Supplier.{Supplier}
use Rattle.metrics.specs.Measure.{glyph_metrics}
use Rattle.bitmaps.specs.Paint.{some}
use Rattle.bitmaps.specs.Place.{Place}
use Rattle.bitmaps.specs.Limits.{ok_place}
use Rattle.bitmaps.specs.Rows.{bytes_past}
use Rattle.bitmaps.specs.Units.{order_of, byte_of}
use Rattle.bitmaps.specs.Picture.{no_bitmap, unreadable, bits_of, row_of, rows_short, pixel_past}
use Rattle.bitmaps.proofs.CutRule.{drawn_within}
use Rattle.bitmaps.proofs.RowsInside.{rows_inside}
use Rattle.bitmaps.proofs.Searching.{some_witness}
use Rattle.outcome.proofs.WithinLimits.{place_limits}
use Rattle.place.specs.Bounds.{bounds_of}
use Rattle.place.specs.Info.{placeable}
use Rattle.place.specs.declared.GlyphInfo.{GlyphInfo}
use Rattle.glyphs.specs.Glyph.{place_of}
use Rattle.why.specs.Codes.{first_outside, second_outside}
use Rattle.why.specs.Reasons.{some_bit, drawn_reason, placed_reason, glyph_reason, code_reason, reason_of}
use Rattle.why.specs.Why.{reason_number, why_of}
use Rattle.why.specs.declared.Reason.{Reason}
use Rattle.why.specs.declared.Told.{Told}
use Rattle.why.proofs.SomeBit.{bit_found, found_bit}
use Rattle.promises.specs.Why.{box_in, rows_in, bit_in, ByteBeyond, SomeSet, OfGlyph, OfCode, TrueOf, rank, FirstTrue, SpokenOf, Askable}
use Rattle.promises.specs.Serving.{ShownBy, Unshown}
use Rattle.promises.proofs.Coloured.{past_dot, dot_past}
use Rattle.promises.proofs.Texts.{ok_place_lem}
use Rattle.promises.proofs.WhyCodes.{first_out, first_in, second_out, second_in, inside_slot, entry_empty}
use Rattle.promises.proofs.Serving.{not_served, no_glyph_lem, unserved_exactly, served_or_9, served_exactly}
use Rattle.promises.proofs.Vetting.{order_good, good_order, metrics_good, good_metrics, data_size}

-- ---- the order

abbrev cut_of : Reason → ℕ
cut_of reason = (reason_number reason).cut

-- the reasons in their order, where n rows are cut
abbrev in_order : ℕ → List Reason
in_order n =
    Reason.AboveCodes
    ∷ Reason.FirstByte
    ∷ Reason.SecondByte
    ∷ Reason.EmptyEntry
    ∷ Reason.NoMetrics
    ∷ Reason.BadMetrics
    ∷ Reason.NoBitmap
    ∷ Reason.BitOrder
    ∷ Reason.BitmapShort
    ∷ Reason.BufferShort
    ∷ Reason.RowsCut n
    ∷ Reason.Blank
    ∷ Reason.Drawn
    ∷ []

abbrev ranked : ℕ → ℕ → Reason
ranked n k = get_or (in_order n) k Reason.Drawn

-- a reason stands where its rank says
at_rank : (reason : Reason) → reason ≡ ranked (cut_of reason) (rank reason)
at_rank Reason.AboveCodes = refl
at_rank Reason.FirstByte = refl
at_rank Reason.SecondByte = refl
at_rank Reason.EmptyEntry = refl
at_rank Reason.NoMetrics = refl
at_rank Reason.BadMetrics = refl
at_rank Reason.NoBitmap = refl
at_rank Reason.BitOrder = refl
at_rank Reason.BitmapShort = refl
at_rank Reason.BufferShort = refl
at_rank (Reason.RowsCut n) = refl
at_rank Reason.Blank = refl
at_rank Reason.Drawn = refl

module _ (s : List ℕ) (rec : Record) (mode : Mode) (code len : ℕ) (at : Place) where
  abbrev True : Reason → Type 0
  True reason = TrueOf s rec mode code len at reason

  abbrev First : Reason → Type 0
  First reason = FirstTrue s rec mode code len at reason

  -- no reason of the first k is true
  abbrev None : ℕ → Type 0
  None k = (other : Reason) → rank other < k → True other → ⊥

  none_first : None 0
  none_first other h t = omega arith

  -- nor of one more, if that one is not
  skip : (k : ℕ) → None k → ((n : ℕ) → True (ranked n k) → ⊥) → None (k + 1)
  skip k none untrue other h t =
      split (ltb (rank other) k) (λ l. none other (ltb-true (rank other) k l) t)
      (λ l.
      let e : rank other ≡ k = omega (arith, ltb-false (rank other) k l) in
      untrue (cut_of other) (subst True (at_rank other ∙ ap (λ (j : ℕ). ranked (cut_of other) j) e) t))

  -- ---- the glyph that shows a code

  module _ (fits : record_fits (length s) rec ≡ true) (g : GlyphIndex) (by : Supplier) (found : served s rec.codes mode code ≡ Served.Glyph g by) where
    abbrev b : BitmapData
    b = rec.bitmaps

    abbrev box : GlyphInfo
    box = box_in s rec g.0

    abbrev n : ℕ
    n = rows_in s rec len at g.0

    -- this glyph shows the code, and no other
    of_glyph : (P : ℕ → Type 0) → OfGlyph s rec mode code P → P g.0
    of_glyph P w =
        let same : Served.Glyph (record { 0 = w.glyph }) w.by ≡ Served.Glyph g by =
        sym ((served_exactly s rec mode code w.glyph w.by).1 w.shown) ∙ found in
        let e : w.glyph ≡ g.0 = cc in
        subst P e w.holds

    its : (P : ℕ → Type 0) → P g.0 → OfGlyph s rec mode code P
    its P p = record { glyph = g.0; by = by; shown = (served_exactly s rec mode code g.0 by).0 found; holds = p }

    -- so that no reason of a code without one is true
    never_coded : (P : Type 0) → OfCode s rec mode code P → ⊥
    never_coded P w = not_served g by (refusal 9 0) (sym found ∙ (unserved_exactly s rec mode code).1 w.unshown)

    none_coded : None 4
    none_coded =
        skip 3 (skip 2 (skip 1 (skip 0 none_first (λ k. never_coded _)) (λ k. never_coded _)) (λ k. never_coded _)) (λ k. never_coded _)

    pub short_beyond : rows_short s b g.0 box.width n ≡ true → ByteBeyond s rec len at g.0
    unfolding rows_short bytes_past
    short_beyond e =
        let byte : ℕ → ℕ → ℕ = λ r c. row_of s b g.0 box.width r + byte_of (order_of b) c in
        let size = length (bits_of s b) in
        let (r, h, row) = some_witness n (λ r. some box.width (λ c. leb size (byte r c))) e in
        let (c, l, past) = some_witness box.width (λ c. leb size (byte r c)) row in
        record { r = r; c = c; r_below = h; c_below = l; beyond = omega (arith, data_size s rec fits, leb-true size (byte r c) past) }

    not_beyond : rows_short s b g.0 box.width n ≡ false → ByteBeyond s rec len at g.0 → ⊥
    not_beyond e w =
        omega (arith, data_size s rec fits, w.beyond, rows_inside s b g.0 box.width n e w.r w.c w.r_below w.c_below)

    -- cut, blank or drawn
    drawn_first : None 10 → First (drawn_reason s b box n)
    drawn_first none =
        choose First (ltb n box.height)
        (λ t. record { is_true = its _ (ltb-true n box.height t, refl); none_before = none })
        (λ t.
        let whole : n ≡ box.height = omega (arith, ltb-false n box.height t, drawn_within len (place_of box at) box.height) in
        let none11 = skip 10 none (λ k w. let (cut, is) = of_glyph _ w in omega (arith, whole, cut)) in
        choose First (some_bit s b g.0 box.width n)
        (λ u.
        let (r, c, h, l, set) = bit_found s b g.0 box.width n u in
        let seen : SomeSet s rec len at g.0 = record { r = r; c = c; r_below = h; c_below = l; is_set = set } in
        record { is_true = its _ seen; none_before = skip 11 none11 (λ k w. of_glyph _ w seen) })
        (λ u.
        record {
          is_true = its _ (λ w. never (sym u ∙ found_bit s b g.0 box.width n w.r w.c w.r_below w.c_below w.is_set));
          none_before = none11;
        }))

    -- 12, 13, 14, 16, then these
    placed_first : None 6 → First (placed_reason s b box len at)
    unfolding placed_reason
    placed_first none =
        choose First (no_bitmap b g.0) (λ t. record { is_true = its _ (leb-true b.count g.0 t); none_before = none })
        (λ t. let none7 = skip 6 none (λ k w. let h = of_glyph _ w in omega (arith, h, leb-false b.count g.0 t)) in
        choose First (unreadable b) (λ u. record { is_true = λ w. never (sym (good_order b w) ∙ u); none_before = none7 })
        (λ u. let none8 = skip 7 none7 (λ k w. w (order_good b u)) in
        choose First (rows_short s b g.0 box.width n) (λ v. record { is_true = its _ (short_beyond v); none_before = none8 })
        (λ v. let none9 = skip 8 none8 (λ k w. not_beyond v (of_glyph _ w)) in
        choose First (pixel_past s b g.0 box.width box.width (place_of box at) n len)
        (λ x.
        let (i, h, lit) = dot_past (bit_in s rec len at g.0) (place_of box at) box.width n len x in
        record { is_true = its _ (record { i = i; beyond = h; coloured = lit }); none_before = none9 })
        (λ x. drawn_first (skip 9 none9 (λ k w.
        let p = of_glyph _ w in
        never (sym x ∙ past_dot (bit_in s rec len at g.0) (place_of box at) box.width n len p.i p.beyond p.coloured)))))))

    -- 10, 11, then these
    glyph_first : None 4 → First (glyph_reason s rec g len at)
    unfolding glyph_reason
    glyph_first none =
        let m = glyph_metrics s rec.metrics g.0 in
        let top = (bounds_of rec).ascent in
        choose First (leb rec.metrics.count g.0) (λ t. record { is_true = its _ (leb-true rec.metrics.count g.0 t); none_before = none })
        (λ t. let none5 = skip 4 none (λ k w. let h = of_glyph _ w in omega (arith, h, leb-false rec.metrics.count g.0 t)) in
        choose First (placeable m top) (λ u. placed_first (skip 5 none5 (λ k w. of_glyph _ w (metrics_good m top u))))
        (λ u. record { is_true = its _ (λ good. never (sym u ∙ good_metrics m top good)); none_before = none5 }))

  -- ---- a code that no glyph shows

  module _ (unshown : Unshown s rec mode code) where
    of_code : (P : Type 0) → P → OfCode s rec mode code P
    of_code P p = record { unshown = unshown; holds = p }

    -- "entry 65,535" is left, past the bounds
    code_first : First (code_reason rec.codes code)
    unfolding code_reason
    code_first =
        let c = rec.codes in
        choose First (ltb 65535 code) (λ t. record { is_true = of_code _ (ltb-true 65535 code t); none_before = none_first })
        (λ t. let none1 = skip 0 none_first (λ k w. let h = w.holds in omega (arith, ltb-false 65535 code t, h)) in
        choose First (first_outside c code) (λ u. record { is_true = of_code _ (first_out c code u); none_before = none1 })
        (λ u. let none2 = skip 1 none1 (λ k w. first_in c code u w.holds) in
        choose First (second_outside c code) (λ v. record { is_true = of_code _ (second_out c code v); none_before = none2 })
        (λ v.
        let (i, stands) = inside_slot c code t u v in
        let empty = entry_empty c code s i stands (refusal 9 0) (no_glyph_lem s rec code unshown.has_none) in
        record { is_true = of_code _ (record { index = i; stands = stands; empty = empty }); none_before = skip 2 none2 (λ k w. second_in c code v w.holds) })))

  -- the reason that is given is the first, and speaks of the right code
  abbrev FirstTold : Told → Type 0
  FirstTold (Told.Because reason by) = First reason × SpokenOf s rec mode code by
  FirstTold (Told.Refused r) = ⊥

  given_first : record_fits (length s) rec ≡ true → FirstTold (reason_of s rec mode code len at)
  unfolding reason_of
  given_first fits = by (served_or_9 s rec mode code) where
    by : (served s rec.codes mode code ≡ Served.Refused (refusal 9 0)) ⊎ ((g : ℕ) × (by : Supplier) × ShownBy s rec mode code g by)
        → FirstTold (reason_of s rec mode code len at)
    by (inl e) = let u = (unserved_exactly s rec mode code).0 e in rw e (code_first u, inr (u, refl))
    by (inr (g, p, shown)) =
        let e = (served_exactly s rec mode code g p).1 shown in
        let glyph : GlyphIndex = record { 0 = g } in
        rw e (glyph_first fits glyph p e (none_coded fits glyph p e), inl (g, shown))

  -- ---- there is one first reason

  -- how many rows of the glyph are cut
  abbrev cut_for : Served → ℕ
  cut_for (Served.Glyph g by) = (box_in s rec g.0).height - rows_in s rec len at g.0
  cut_for (Served.Refused r) = 0

  cut_is : (reason : Reason) → True reason → cut_of reason ≡ cond (eqb (rank reason) (rank (Reason.RowsCut 0))) (cut_for (served s rec.codes mode code)) 0
  cut_is Reason.AboveCodes w = refl
  cut_is Reason.FirstByte w = refl
  cut_is Reason.SecondByte w = refl
  cut_is Reason.EmptyEntry w = refl
  cut_is Reason.NoMetrics w = refl
  cut_is Reason.BadMetrics w = refl
  cut_is Reason.NoBitmap w = refl
  cut_is Reason.BitOrder w = refl
  cut_is Reason.BitmapShort w = refl
  cut_is Reason.BufferShort w = refl
  cut_is (Reason.RowsCut n) w = rw ((served_exactly s rec mode code w.glyph w.by).1 w.shown) w.holds.1
  cut_is Reason.Blank w = refl
  cut_is Reason.Drawn w = refl

  one_first : (q r : Reason) → First q → First r → q ≡ r
  one_first q r f g =
      split (ltb (rank q) (rank r)) (λ t. absurd (g.none_before q (ltb-true (rank q) (rank r) t) f.is_true))
      (λ t. split (ltb (rank r) (rank q)) (λ u. absurd (f.none_before r (ltb-true (rank r) (rank q) u) g.is_true))
      (λ u.
      let same : rank q ≡ rank r = omega (arith, ltb-false (rank q) (rank r) t, ltb-false (rank r) (rank q) u) in
      let cut : cut_of q ≡ cut_of r =
      cut_is q f.is_true ∙ ap (λ (k : ℕ). cond (eqb k (rank (Reason.RowsCut 0))) (cut_for (served s rec.codes mode code)) 0) same ∙ sym (cut_is r g.is_true)
      in
      at_rank q ∙ ap₂ ranked cut same ∙ sym (at_rank r)))

  -- ---- what `why` answers

  told_because : (fits within : Bool) (given : Told) (reason : Reason) (by : Supplier) (six fifteen : Refusal)
      → cond fits (cond within given (Told.Refused fifteen)) (Told.Refused six) ≡ Told.Because reason by
      → (fits ≡ true) × (within ≡ true) × (given ≡ Told.Because reason by)
  told_because true true given reason by six fifteen e = (refl, refl, e)
  told_because true false given reason by six fifteen e = let z : ◌≡◌ {A = ℕ} 0 1 = cc in absurd (omega arith)
  told_because false within given reason by six fifteen e = let z : ◌≡◌ {A = ℕ} 0 1 = cc in absurd (omega arith)

  asked_limits : ok_place at ≡ true → record_fits (length s) rec ≡ true → Askable s rec at
  asked_limits ok fits =
      let (start, stride_low, stride_high, scale_low, scale_high) = place_limits at.p at.stride at.scale ok in
      record {
        fits = fits;
        start_high = start;
        stride_low = stride_low;
        stride_high = stride_high;
        scale_low = scale_low;
        scale_high = scale_high;
      }

  pub within_limits : Askable s rec at → ok_place at ≡ true
  within_limits a =
      ok_place_lem at.p at.stride at.scale a.start_high a.stride_low a.stride_high a.scale_low a.scale_high

  -- there is one code to speak of
  one_spoken : (x y : Supplier) → SpokenOf s rec mode code x → SpokenOf s rec mode code y → x ≡ y
  one_spoken x y (inl (g, p)) (inl (h, q)) =
      let same : Served.Glyph (record { 0 = g }) x ≡ Served.Glyph (record { 0 = h }) y =
      sym ((served_exactly s rec mode code g x).1 p) ∙ (served_exactly s rec mode code h y).1 q in
      cc
  one_spoken x y (inl (g, p)) (inr (u, e)) =
      absurd (not_served (record { 0 = g }) x (refusal 9 0) (sym ((served_exactly s rec mode code g x).1 p) ∙ (unserved_exactly s rec mode code).1 u))
  one_spoken x y (inr (u, e)) (inl (h, q)) =
      absurd (not_served (record { 0 = h }) y (refusal 9 0) (sym ((served_exactly s rec mode code h y).1 q) ∙ (unserved_exactly s rec mode code).1 u))
  one_spoken x y (inr (u, e)) (inr (v, f)) = e ∙ sym f

  one_told : (told : Told) (reason : Reason) (by : Supplier) → FirstTold told → First reason → SpokenOf s rec mode code by → told ≡ Told.Because reason by
  one_told (Told.Because given other) reason by (first, spoken) f q = ap₂ Told.Because (one_first given reason first f) (one_spoken other by spoken q)
  one_told (Told.Refused r) reason by none f q = absurd none

  -- a reason is given if and only if neither 6 nor 15 refuses, it is true, and none before it is; and it speaks of the right code
  pub why_first : (reason : Reason) (by : Supplier)
      → (why_of s rec mode code len at ≡ Told.Because reason by) ↔ (Askable s rec at × First reason × SpokenOf s rec mode code by)
  unfolding why_of
  why_first reason by = (
    λ e.
        let (fits, ok, is) = told_because (record_fits (length s) rec) (ok_place at) (reason_of s rec mode code len at) reason by (refusal 6 0) (refusal 15 0) e in
        let (first, spoken) = subst FirstTold is (given_first fits) in
        (asked_limits ok fits, first, spoken),
    λ (a, f, q). rw (a.fits, within_limits a) (one_told (reason_of s rec mode code len at) reason by (given_first a.fits) f q),
  )

-- Every call that draws keeps to what `Keeps` says.
use Prim.Native.Nat.{ℕ, ◌≤◌}
use mathlib.Core.Path.{◌≡◌, refl, sym, ap, ◌∙◌, ap₂}
use mathlib.Core.Bool.{Bool, true, false, cond}
use mathlib.Core.List.{List}
use native.Mathlib.Omega.{arith}
use lib.Dec.{eqb}
use borrow.Author.Tests.{eqb-true}
use Rattle.reads.specs.declared.Refusal.{Refusal}
use Rattle.reads.proofs.Tests.{never}
use Rattle.tables.specs.Fits.{permitted}
use Rattle.tables.specs.declared.BitmapData.{BitmapData}
use Rattle.tables.specs.declared.Permit.{Permit}
use Rattle.tables.specs.declared.Record.{Record}
use Rattle.modes.specs.declared.Mode.{Mode}
use Rattle.lookup.specs.declared.Supplier.{Supplier}
use Rattle.bitmaps.specs.Paint.{painted}
use Rattle.bitmaps.specs.Place.{Place}
use Rattle.bitmaps.specs.Cut.{drawn_rows}
use Rattle.bitmaps.specs.Picture.{no_bitmap, glyph_bit}
use Rattle.bitmaps.specs.Draw.{rows_of, shown_at, in_glyph, shown_leaves, bitmap_ready, draw_bitmap, said_drawn}
use Rattle.bitmaps.specs.Unpack.{unscaled, whole_columns, unpacked_at, in_unpacked, said_unpacked}
use Rattle.bitmaps.specs.declared.Rows.{Rows}
use Rattle.bitmaps.specs.declared.Drawn.{Drawn}
use Rattle.bitmaps.specs.declared.Unpacked.{Unpacked}
use Rattle.bitmaps.proofs.Painting.{painted_none}
use Rattle.bitmaps.proofs.Pixels.{none_beyond}
use Rattle.bitmaps.proofs.CutRule.{drawn_within}
use Rattle.bitmaps.proofs.NoDots.{none_found}
use Rattle.outcome.proofs.Answered.{is_drawn, is_unpacked, shown_rows, unpacked_rows}
use Rattle.place.specs.declared.GlyphInfo.{GlyphInfo}
use Rattle.place.specs.declared.CharPrepared.{CharPrepared}
use Rattle.glyphs.specs.Glyph.{place_of, nothing_drawn, glyph_drawn, in_info, glyph_ready, draw_glyph}
use Rattle.glyphs.specs.Char.{with_info, char_of, char_ready, draw_char, said_char}
use Rattle.glyphs.specs.Unpack.{glyph_unpacked, unpack_glyph}
use Rattle.glyphs.specs.declared.CharDrawn.{CharDrawn}
use Rattle.promises.specs.Drawing.{Keeps, whole_drawn, whole_char, whole_unpacked, bitmap_coloured, char_coloured, bitmap_call, glyph_call, char_call, unpack_call}
use Rattle.promises.proofs.ByRule.{by_rule}
use Rattle.promises.proofs.Coloured.{lit_dot, found_dot}

-- ---- a bitmap at a place

module _ (s : List ℕ) (b : BitmapData) (g width : ℕ) (at : Place) where
  abbrev rows_rule : Drawn → ℕ → Bool
  rows_rule (Drawn.Rows r) i = in_glyph s b g width at r.drawn i
  rows_rule (Drawn.Refused r) i = false

  rows_lit : (a : Drawn) (i : ℕ) → bitmap_coloured s b g width at a i → rows_rule a i ≡ true
  rows_lit (Drawn.Rows r) i l = lit_dot (glyph_bit s b g width) at width r.drawn i l
  rows_lit (Drawn.Refused r) i l = absurd l

  rows_found : (a : Drawn) (i : ℕ) → rows_rule a i ≡ true → bitmap_coloured s b g width at a i
  rows_found (Drawn.Rows r) i t = found_dot (glyph_bit s b g width) at width r.drawn i t
  rows_found (Drawn.Refused r) i t = never t

  rows_none : (a : Drawn) → ((said_drawn a).number ≡ 0 → ⊥) → (i : ℕ) → rows_rule a i ≡ false
  rows_none (Drawn.Rows r) e i = absurd (e refl)
  rows_none (Drawn.Refused r) e i = refl

  rows_painted : (colour : ℕ) (a : Drawn) (old : List ℕ) → shown_leaves s b g width at colour a old ≡ painted (rows_rule a) colour old
  rows_painted colour (Drawn.Rows r) old = refl
  rows_painted colour (Drawn.Refused r) old = sym (painted_none (λ i. false) colour old (λ i h. refl))

  pub nothing_inside : (i : ℕ) → in_glyph s b g width at 0 i ≡ false
  nothing_inside i = none_found (glyph_bit s b g width) at width 0 (λ r c a h l m. omega arith) (λ j. eqb i j)

  shown_inside : (height len : ℕ) (r : Rows) → shown_at s b g width height len at ≡ Drawn.Rows r
      → (i : ℕ) → len ≤ i → in_glyph s b g width at r.drawn i ≡ false
  shown_inside height len r e =
      none_beyond (glyph_bit s b g width) at width r.drawn len (shown_rows s b g width height len at r e).1.pixels

  shown_whole : (height len : ℕ) (r : Rows) → shown_at s b g width height len at ≡ Drawn.Rows r → eqb r.dropped 0 ≡ true → r ≡ rows_of height height
  shown_whole height len r e t =
      let n = drawn_rows len at height in
      let is = (shown_rows s b g width height len at r e).0 in
      let none = eqb-true (rows_of height n).dropped 0 (rw is at t) in
      let all : n ≡ height = omega (arith, none, drawn_within len at height) in
      is ∙ ap (rows_of height) all

-- ---- a placed glyph

module _ (s : List ℕ) (b : BitmapData) (i : GlyphInfo) (at : Place) where
  abbrev spot : Place
  spot = place_of i at

  abbrev shown : ℕ → Drawn
  shown len = shown_at s b i.glyph.0 i.width i.height len spot

  pub glyph_inside : (len : ℕ) (r : Rows) → glyph_drawn s b i len at ≡ Drawn.Rows r
      → (k : ℕ) → len ≤ k → in_info s b i at r.drawn k ≡ false
  unfolding glyph_drawn
  glyph_inside len r e k h = by (no_bitmap b i.glyph.0) e
    where
      by : (z : Bool) → cond z nothing_drawn (shown len) ≡ Drawn.Rows r → in_info s b i at r.drawn k ≡ false
      by true f = let none : r.drawn ≡ 0 = cc in rw none (nothing_inside s b i.glyph.0 i.width spot k)
      by false f = shown_inside s b i.glyph.0 i.width spot i.height len r f k h

  -- the answer where no row is cut
  abbrev pub all_glyph : Drawn
  all_glyph = cond (no_bitmap b i.glyph.0) nothing_drawn (Drawn.Rows (rows_of i.height i.height))

  pub glyph_whole : (len : ℕ) (r : Rows) → glyph_drawn s b i len at ≡ Drawn.Rows r → eqb r.dropped 0 ≡ true → Drawn.Rows r ≡ all_glyph
  unfolding glyph_drawn
  glyph_whole len r e t = by (no_bitmap b i.glyph.0) e
    where
      by : (z : Bool) → cond z nothing_drawn (shown len) ≡ Drawn.Rows r → Drawn.Rows r ≡ cond z nothing_drawn (Drawn.Rows (rows_of i.height i.height))
      by true f = sym f
      by false f = ap Drawn.Rows (shown_whole s b i.glyph.0 i.width spot i.height len r f t)

-- ---- a placed glyph unpacked, at scale 1

module _ (s : List ℕ) (b : BitmapData) (i : GlyphInfo) (start stride : ℕ) where
  abbrev bytes_at : ℕ → Unpacked
  bytes_at len = unpacked_at s b i.glyph.0 i.width i.height len (place_of i (unscaled start stride)).p stride

  unpacked_inside : (len n : ℕ) → glyph_unpacked s b i len start stride ≡ Unpacked.Rows n
      → (k : ℕ) → len ≤ k → in_unpacked s b i.glyph.0 i.width (place_of i (unscaled start stride)).p stride n k ≡ false
  unfolding glyph_unpacked
  unpacked_inside len n e k h = by (no_bitmap b i.glyph.0) e
    where
      bit : ℕ → ℕ → Bool
      bit = glyph_bit s b i.glyph.0 i.width

      by : (z : Bool) → cond z (Unpacked.Rows 0) (bytes_at len) ≡ Unpacked.Rows n
          → in_unpacked s b i.glyph.0 i.width (place_of i (unscaled start stride)).p stride n k ≡ false
      by true f = let none : n ≡ 0 = cc in rw none (none_found bit (place_of i (unscaled start stride)) (whole_columns i.width) 0 (λ r c a h l m. omega arith) (λ j. eqb k j))
      by false f =
          none_beyond bit (place_of i (unscaled start stride)) (whole_columns i.width) n len
          (unpacked_rows s b i.glyph.0 i.width i.height len (place_of i (unscaled start stride)).p stride n f).1.pixels k h

  abbrev all_unpacked : Unpacked
  all_unpacked = cond (no_bitmap b i.glyph.0) (Unpacked.Rows 0) (Unpacked.Rows i.height)

  unpacked_whole : (len n : ℕ) → glyph_unpacked s b i len start stride ≡ Unpacked.Rows n → Unpacked.Rows n ≡ all_unpacked
  unfolding glyph_unpacked
  unpacked_whole len n e = by (no_bitmap b i.glyph.0) e
    where
      by : (z : Bool) → cond z (Unpacked.Rows 0) (bytes_at len) ≡ Unpacked.Rows n → Unpacked.Rows n ≡ cond z (Unpacked.Rows 0) (Unpacked.Rows i.height)
      by true f = sym f
      by false f = ap Unpacked.Rows (unpacked_rows s b i.glyph.0 i.width i.height len (place_of i (unscaled start stride)).p stride n f).0

-- an answer that is no refusal is the answer past the tests
past_tests : {A : Type 0} (refused : Refusal → A) (g : Permit) (d a : A) → ((r : Refusal) → refused r ≡ a → ⊥) → permitted refused g d ≡ a → d ≡ a
past_tests refused Permit.Given d a h e = e
past_tests refused (Permit.Refused r) d a h e = absurd (h r e)

module _ (s : List ℕ) (rec : Record) (at : Place) where
  -- ---- draw_bitmap

  module _ (g width height colour : ℕ) where
    abbrev rule : Drawn → ℕ → Bool
    rule = rows_rule s rec.bitmaps g width at

    abbrev answer : ℕ → Drawn
    answer len = draw_bitmap s rec g width height len at

    bitmap_told : (len : ℕ) (r : Rows) → answer len ≡ Drawn.Rows r → shown_at s rec.bitmaps g width height len at ≡ Drawn.Rows r
    unfolding draw_bitmap
    bitmap_told len r e =
        past_tests Drawn.Refused (bitmap_ready s rec g width height at) (shown_at s rec.bitmaps g width height len at) (Drawn.Rows r) (is_drawn r) e

    bitmap_inside : (len : ℕ) (a : Drawn) → answer len ≡ a → (i : ℕ) → len ≤ i → rule a i ≡ false
    bitmap_inside len (Drawn.Rows r) e i h = shown_inside s rec.bitmaps g width at height len r (bitmap_told len r e) i h
    bitmap_inside len (Drawn.Refused r) e i h = refl

    bitmap_whole : (len : ℕ) (a : Drawn) → answer len ≡ a → whole_drawn a ≡ true → a ≡ Drawn.Rows (rows_of height height)
    bitmap_whole len (Drawn.Rows r) e t = ap Drawn.Rows (shown_whole s rec.bitmaps g width at height len r (bitmap_told len r e) t)
    bitmap_whole len (Drawn.Refused r) e t = never t

    pub bitmap_keeps : Keeps (bitmap_call s rec at g width height colour)
    bitmap_keeps =
        by_rule (bitmap_call s rec at g width height colour) rule (rows_painted s rec.bitmaps g width at colour)
        (rows_lit s rec.bitmaps g width at) (rows_found s rec.bitmaps g width at)
        (rows_none s rec.bitmaps g width at)
        (λ len. bitmap_inside len (answer len) refl)
        (λ len more e f. bitmap_whole more (answer more) refl f ∙ sym (bitmap_whole len (answer len) refl e))

  -- ---- draw_glyph

  module _ (mode : Mode) (i : GlyphInfo) (colour : ℕ) where
    abbrev glyph_rule : Drawn → ℕ → Bool
    glyph_rule = rows_rule s rec.bitmaps i.glyph.0 i.width (place_of i at)

    abbrev glyph_answer : ℕ → Drawn
    glyph_answer len = draw_glyph s rec mode i len at

    glyph_told : (len : ℕ) (r : Rows) → glyph_answer len ≡ Drawn.Rows r → glyph_drawn s rec.bitmaps i len at ≡ Drawn.Rows r
    unfolding draw_glyph
    glyph_told len r e =
        past_tests Drawn.Refused (glyph_ready s rec mode i at) (glyph_drawn s rec.bitmaps i len at) (Drawn.Rows r) (is_drawn r) e

    glyph_in : (len : ℕ) (a : Drawn) → glyph_answer len ≡ a → (k : ℕ) → len ≤ k → glyph_rule a k ≡ false
    glyph_in len (Drawn.Rows r) e k h = glyph_inside s rec.bitmaps i at len r (glyph_told len r e) k h
    glyph_in len (Drawn.Refused r) e k h = refl

    glyph_all : (len : ℕ) (a : Drawn) → glyph_answer len ≡ a → whole_drawn a ≡ true → a ≡ all_glyph s rec.bitmaps i at
    glyph_all len (Drawn.Rows r) e t = glyph_whole s rec.bitmaps i at len r (glyph_told len r e) t
    glyph_all len (Drawn.Refused r) e t = never t

    pub glyph_keeps : Keeps (glyph_call s rec at mode i colour)
    glyph_keeps =
        let there = place_of i at in
        by_rule (glyph_call s rec at mode i colour) glyph_rule (rows_painted s rec.bitmaps i.glyph.0 i.width there colour)
        (rows_lit s rec.bitmaps i.glyph.0 i.width there) (rows_found s rec.bitmaps i.glyph.0 i.width there)
        (rows_none s rec.bitmaps i.glyph.0 i.width there)
        (λ len. glyph_in len (glyph_answer len) refl)
        (λ len more e f. glyph_all more (glyph_answer more) refl f ∙ sym (glyph_all len (glyph_answer len) refl e))

  -- ---- draw_char

  module _ (mode : Mode) (code colour : ℕ) where
    abbrev char_rule : CharDrawn → ℕ → Bool
    char_rule (CharDrawn.Glyph i r by) k = in_info s rec.bitmaps i at r.drawn k
    char_rule (CharDrawn.Refused r) k = false

    abbrev char_answer : ℕ → CharDrawn
    char_answer len = draw_char s rec mode code len at

    of_char : (j i : GlyphInfo) (p by : Supplier) (r : Rows) (d : Drawn) → char_of j p d ≡ CharDrawn.Glyph i r by → (j ≡ i) × (p ≡ by) × (d ≡ Drawn.Rows r)
    of_char j i p by r (Drawn.Rows x) e = let a : j ≡ i = cc in let b : x ≡ r = cc in let c : p ≡ by = cc in (a, c, ap Drawn.Rows b)
    of_char j i p by r (Drawn.Refused x) e = let z : ◌≡◌ {A = ℕ} 0 1 = cc in absurd (omega arith)

    of_info : (len : ℕ) (i : GlyphInfo) (r : Rows) (by : Supplier) (q : CharPrepared)
        → with_info q (λ j p. char_of j p (glyph_drawn s rec.bitmaps j len at)) ≡ CharDrawn.Glyph i r by
        → (q ≡ CharPrepared.Info i by) × (glyph_drawn s rec.bitmaps i len at ≡ Drawn.Rows r)
    of_info len i r by (CharPrepared.Info j p) e =
        let (same, supplier, drawn) = of_char j i p by r (glyph_drawn s rec.bitmaps j len at) e in
        (ap₂ CharPrepared.Info same supplier, ap (λ (x : GlyphInfo). glyph_drawn s rec.bitmaps x len at) (sym same) ∙ drawn)
    of_info len i r by (CharPrepared.Refused x) e = let z : ◌≡◌ {A = ℕ} 0 1 = cc in absurd (omega arith)

    char_told : (len : ℕ) (i : GlyphInfo) (r : Rows) (by : Supplier) → char_answer len ≡ CharDrawn.Glyph i r by
        → (char_ready s rec mode code at ≡ CharPrepared.Info i by) × (glyph_drawn s rec.bitmaps i len at ≡ Drawn.Rows r)
    unfolding draw_char
    char_told len i r by e = of_info len i r by (char_ready s rec mode code at) e

    char_is : (a : CharDrawn) (old : List ℕ) → (char_call s rec at mode code colour).leaves a old ≡ painted (char_rule a) colour old
    char_is (CharDrawn.Glyph i r by) old = refl
    char_is (CharDrawn.Refused r) old = sym (painted_none (λ k. false) colour old (λ k h. refl))

    char_lit : (a : CharDrawn) (k : ℕ) → char_coloured s rec.bitmaps at a k → char_rule a k ≡ true
    char_lit (CharDrawn.Glyph i r by) k l =
        lit_dot (glyph_bit s rec.bitmaps i.glyph.0 i.width) (place_of i at) i.width r.drawn k l
    char_lit (CharDrawn.Refused r) k l = absurd l

    char_found : (a : CharDrawn) (k : ℕ) → char_rule a k ≡ true → char_coloured s rec.bitmaps at a k
    char_found (CharDrawn.Glyph i r by) k t =
        found_dot (glyph_bit s rec.bitmaps i.glyph.0 i.width) (place_of i at) i.width r.drawn k t
    char_found (CharDrawn.Refused r) k t = never t

    char_none : (a : CharDrawn) → ((said_char a).number ≡ 0 → ⊥) → (k : ℕ) → char_rule a k ≡ false
    char_none (CharDrawn.Glyph i r by) e k = absurd (e refl)
    char_none (CharDrawn.Refused r) e k = refl

    char_in : (len : ℕ) (a : CharDrawn) → char_answer len ≡ a → (k : ℕ) → len ≤ k → char_rule a k ≡ false
    char_in len (CharDrawn.Glyph i r by) e k h = glyph_inside s rec.bitmaps i at len r (char_told len i r by e).1 k h
    char_in len (CharDrawn.Refused r) e k h = refl

    abbrev all_char : CharPrepared → CharDrawn
    all_char q = with_info q (λ j p. char_of j p (all_glyph s rec.bitmaps j at))

    char_all : (len : ℕ) (a : CharDrawn) → char_answer len ≡ a → whole_char a ≡ true → a ≡ all_char (char_ready s rec mode code at)
    char_all len (CharDrawn.Glyph i r by) e t =
        let (is, drawn) = char_told len i r by e in
        ap (char_of i by) (glyph_whole s rec.bitmaps i at len r drawn t) ∙ ap all_char (sym is)
    char_all len (CharDrawn.Refused r) e t = never t

    pub char_keeps : Keeps (char_call s rec at mode code colour)
    char_keeps =
        by_rule (char_call s rec at mode code colour) char_rule char_is char_lit char_found char_none
        (λ len. char_in len (char_answer len) refl)
        (λ len more e f. char_all more (char_answer more) refl f ∙ sym (char_all len (char_answer len) refl e))

-- ---- unpack_glyph

module _ (s : List ℕ) (rec : Record) (mode : Mode) (start stride : ℕ) (i : GlyphInfo) where
  abbrev unpack_rule : Unpacked → ℕ → Bool
  unpack_rule (Unpacked.Rows n) k = in_unpacked s rec.bitmaps i.glyph.0 i.width (place_of i (unscaled start stride)).p stride n k
  unpack_rule (Unpacked.Refused r) k = false

  abbrev unpack_answer : ℕ → Unpacked
  unpack_answer len = unpack_glyph s rec mode i len start stride

  unpack_told : (len n : ℕ) → unpack_answer len ≡ Unpacked.Rows n → glyph_unpacked s rec.bitmaps i len start stride ≡ Unpacked.Rows n
  unfolding unpack_glyph
  unpack_told len n e =
      past_tests Unpacked.Refused (glyph_ready s rec mode i (unscaled start stride)) (glyph_unpacked s rec.bitmaps i len start stride) (Unpacked.Rows n)
      (is_unpacked n) e

  unpack_is : (a : Unpacked) (old : List ℕ) → (unpack_call s rec mode start stride i).leaves a old ≡ painted (unpack_rule a) 1 old
  unpack_is (Unpacked.Rows n) old = refl
  unpack_is (Unpacked.Refused r) old = sym (painted_none (λ k. false) 1 old (λ k h. refl))

  unpack_lit : (a : Unpacked) (k : ℕ) → (unpack_call s rec mode start stride i).coloured a k → unpack_rule a k ≡ true
  unpack_lit (Unpacked.Rows n) k l =
      lit_dot (glyph_bit s rec.bitmaps i.glyph.0 i.width) (place_of i (unscaled start stride)) (whole_columns i.width) n k l
  unpack_lit (Unpacked.Refused r) k l = absurd l

  unpack_found : (a : Unpacked) (k : ℕ) → unpack_rule a k ≡ true → (unpack_call s rec mode start stride i).coloured a k
  unpack_found (Unpacked.Rows n) k t =
      found_dot (glyph_bit s rec.bitmaps i.glyph.0 i.width) (place_of i (unscaled start stride)) (whole_columns i.width) n k t
  unpack_found (Unpacked.Refused r) k t = never t

  unpack_none : (a : Unpacked) → ((said_unpacked a).number ≡ 0 → ⊥) → (k : ℕ) → unpack_rule a k ≡ false
  unpack_none (Unpacked.Rows n) e k = absurd (e refl)
  unpack_none (Unpacked.Refused r) e k = refl

  unpack_in : (len : ℕ) (a : Unpacked) → unpack_answer len ≡ a → (k : ℕ) → len ≤ k → unpack_rule a k ≡ false
  unpack_in len (Unpacked.Rows n) e k h = unpacked_inside s rec.bitmaps i start stride len n (unpack_told len n e) k h
  unpack_in len (Unpacked.Refused r) e k h = refl

  unpack_all : (len : ℕ) (a : Unpacked) → unpack_answer len ≡ a → whole_unpacked a ≡ true → a ≡ all_unpacked s rec.bitmaps i start stride
  unpack_all len (Unpacked.Rows n) e t = unpacked_whole s rec.bitmaps i start stride len n (unpack_told len n e)
  unpack_all len (Unpacked.Refused r) e t = never t

  pub unpack_keeps : Keeps (unpack_call s rec mode start stride i)
  unpack_keeps =
      by_rule (unpack_call s rec mode start stride i) unpack_rule unpack_is unpack_lit unpack_found unpack_none
      (λ len. unpack_in len (unpack_answer len) refl)
      (λ len more e f. unpack_all more (unpack_answer more) refl f ∙ sym (unpack_all len (unpack_answer len) refl e))

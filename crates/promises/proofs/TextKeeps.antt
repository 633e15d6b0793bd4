-- Drawing a text keeps to what `Keeps` says, with any font, text and layout.
use Prim.Native.Nat.{ℕ, ◌+◌, ◌≤◌}
use mathlib.Core.Path.{◌≡◌, refl, sym, ap, ap₂, ◌∙◌}
use mathlib.Core.Bool.{Bool, true, false, ◌||◌}
use mathlib.Core.List.{List, [], ◌∷◌}
use mathlib.Core.Logic.{◌↔◌, inl, inr, ⊎_elim}
use native.Mathlib.Omega.{arith}
use lib.ListN.{length}
use borrow.Author.Tests.{eqb-true, eq-eqb, leb-true, leb-false}
use Rattle.reads.proofs.Tests.{never, split, or_first_lem, or_second, or_cases}
use Rattle.tables.specs.declared.Record.{Record}
use Rattle.modes.specs.declared.Mode.{Mode}
use Rattle.bitmaps.specs.Paint.{painted}
use Rattle.bitmaps.specs.Picture.{no_bitmap, glyph_bit}
use Rattle.bitmaps.specs.declared.Drawn.{Drawn}
use Rattle.bitmaps.specs.declared.Rows.{Rows}
use Rattle.bitmaps.proofs.Painting.{painted_none}
use Rattle.outcome.proofs.Answered.{shown_rows}
use Rattle.place.specs.declared.GlyphInfo.{GlyphInfo}
use Rattle.glyphs.specs.Glyph.{glyph_drawn, in_info}
use Rattle.utf8.specs.Decode.{Char, decoded, chars_of}
use Rattle.text.specs.Walk.{origin, placed, spot, drawn_from, placed_drawn, pen_after, rows_in, in_placed}
use Rattle.text.specs.Text.{text_from, in_text, ready, draw_string, string_leaves, said_text}
use Rattle.text.specs.declared.Layout.{Layout}
use Rattle.text.specs.declared.Pen.{Pen}
use Rattle.text.specs.declared.Placed.{Placed}
use Rattle.text.specs.declared.TextDrawn.{TextDrawn}
use Rattle.text.specs.declared.TextRows.{TextRows}
use Rattle.promises.specs.Drawing.{Keeps}
use Rattle.promises.specs.Texts.{Spot, spot_before, spots_from, spots_of, Some, spot_place, spot_rows, InkedAny, whole_text, text_coloured, string_call}
use Rattle.promises.proofs.DrawnText.{of_rows, was_ready}
use Rattle.promises.proofs.ByRule.{by_length}
use Rattle.promises.proofs.Coloured.{lit_dot, found_dot}
use Rattle.promises.proofs.Drawing.{nothing_inside, glyph_inside, all_glyph, glyph_whole}

module _ (s : List ℕ) (rec : Record) (mode : Mode) (text : List ℕ) (lay : Layout) where
  -- the pixels of what was placed, and of characters, where no row is cut: the buffer's length does not occur
  abbrev in_whole : Placed → ℕ → Bool
  in_whole (Placed.Skip pen) k = false
  in_whole (Placed.Glyph pen i) k =
      let all = all_glyph s rec.bitmaps i (spot lay pen) in
      in_info s rec.bitmaps i (spot lay pen) (rows_in all) k
  in_whole (Placed.Refused n) k = false

  unfoldable whole_from : List Char → Pen → ℕ → Bool
  whole_from [] pen k = false
  whole_from (c ∷ cs) pen k = let p = placed s rec mode lay c.code pen in in_whole p k || whole_from cs (pen_after lay p pen) k

  module _ (len : ℕ) where
    -- ---- one glyph that was drawn

    module _ (byte : ℕ) (pen : Pen) (i : GlyphInfo) (r : Rows) (k : ℕ) where
      abbrev x : Spot
      x = record { byte = byte; pen = pen; info = i }

      abbrev in_glyph : ℕ → Bool
      in_glyph n = in_info s rec.bitmaps i (spot lay pen) n k

      inked_glyph : drawn_from s rec lay len pen i ≡ Drawn.Rows r → (in_glyph r.drawn ≡ true) ↔ InkedAny s rec mode text lay len k x
      unfolding glyph_drawn
      inked_glyph e =
          let b = rec.bitmaps in
          let g = i.glyph.0 in
          let p = spot_place lay len x in
          split (no_bitmap b g)
          (λ t.
          let none : r.drawn ≡ 0 = sym (ap rows_in (rw t at e)) in (
            λ is. never (sym (nothing_inside s b g i.width p k) ∙ (rw none at is)),
            λ (has, d). absurd (omega (arith, has, leb-true b.count g t)),
          ))
          (λ t.
          let rows : r.drawn ≡ spot_rows lay len x =
          ap (λ (y : Rows). y.drawn) (shown_rows s b g i.width i.height len p r (rw t at e)).0 in
          rw rows (
            λ is. (leb-false b.count g t, found_dot (glyph_bit s b g i.width) p i.width (spot_rows lay len x) k is),
            λ (has, d). lit_dot (glyph_bit s b g i.width) p i.width (spot_rows lay len x) k d,
          ))

      whole_glyph_lem : drawn_from s rec lay len pen i ≡ Drawn.Rows r → r.dropped ≡ 0 → in_glyph r.drawn ≡ in_whole (Placed.Glyph pen i) k
      whole_glyph_lem e none =
          ap (λ (d : Drawn). in_glyph (rows_in d))
          (glyph_whole s rec.bitmaps i (spot lay pen) len r e (eq-eqb r.dropped 0 none))

    -- ---- characters that were all drawn

    -- their rule, where no row is cut, and their glyphs; with the rows dropped before them, and after
    record Walked (rule all : ℕ → Bool) (xs : List Spot) (before dropped : ℕ) : Type 0 where
      more : before ≤ dropped
      inside : (k : ℕ) → len ≤ k → rule k ≡ false
      inked : (k : ℕ) → (rule k ≡ true) ↔ Some (InkedAny s rec mode text lay len k) xs
      whole : dropped ≡ 0 → (k : ℕ) → rule k ≡ all k

    either_inked : (k : ℕ) (x : Spot) (xs : List Spot) (a b : Bool) → (a ≡ true) ↔ InkedAny s rec mode text lay len k x
        → (b ≡ true) ↔ Some (InkedAny s rec mode text lay len k) xs → (a || b ≡ true) ↔ Some (InkedAny s rec mode text lay len k) (x ∷ xs)
    either_inked k x xs a b (to, from) (to-rest, from-rest) = (
      λ t. ⊎_elim (λ d. inl (to d)) (λ d. inr (to-rest d)) (or_cases a b t),
      ⊎_elim (λ d. or_first_lem a b (from d)) (λ d. or_second a b (from-rest d)),
    )

    -- one character, before the rest
    module _ (byte : ℕ) (rule all : ℕ → Bool) (xs : List Spot) (before dropped : ℕ) where
      walked_char : (p : Placed) (r : Rows) → placed_drawn s rec lay len p ≡ Drawn.Rows r → Walked rule all xs (before + r.dropped) dropped
          → Walked (λ k. in_placed s rec lay len p k || rule k) (λ k. in_whole p k || all k) (spot_before byte p xs) before dropped
      unfolding placed_drawn
      walked_char (Placed.Skip pen) r e w = record { more = omega (arith, w.more); inside = w.inside; inked = w.inked; whole = w.whole }
      walked_char (Placed.Glyph pen i) r e w =
          let x : Spot = record { byte = byte; pen = pen; info = i } in
          rw e (record {
            more = omega (arith, w.more);
            inside = λ k h. rw (glyph_inside s rec.bitmaps i (spot lay pen) len r e k h) (w.inside k h);
            inked = λ k. either_inked k x xs (in_glyph byte pen i r k r.drawn) (rule k) (inked_glyph byte pen i r k e) (w.inked k);
            whole = λ none k. ap₂ (λ (a b : Bool). a || b) (whole_glyph_lem byte pen i r k e (omega (arith, none, w.more))) (w.whole none k);
          })
      walked_char (Placed.Refused n) r e w = let z : ◌≡◌ {A = ℕ} 0 1 = cc in absurd (omega arith)

    walked_text : (cs : List Char) (pen : Pen) (before : ℕ) (t : TextRows) → text_from s rec mode lay len cs pen before ≡ TextDrawn.Done t
        → Walked (in_text s rec mode lay len cs pen) (whole_from cs pen) (spots_from s rec mode lay cs pen) before t.dropped
    unfolding text_from in_text whole_from spots_from
    walked_text [] pen before t e =
        let is : before ≡ t.dropped = cc in
        record { more = omega (arith, is); inside = λ k h. refl; inked = λ k. (never, λ none. absurd none); whole = λ none k. refl }
    walked_text (c ∷ cs) pen before t e =
        let p = placed s rec mode lay c.code pen in
        let q = pen_after lay p pen in
        let (r, drawn, rest) = of_rows (placed_drawn s rec lay len p) c.byte (λ more. text_from s rec mode lay len cs q (before + more)) t e in
        walked_char c.byte (in_text s rec mode lay len cs q) (whole_from cs q) (spots_from s rec mode lay cs q) before t.dropped p r drawn
        (walked_text cs q (before + r.dropped) t rest)

  -- ---- draw_string

  abbrev cs : List Char
  cs = chars_of (decoded text)

  abbrev answer : ℕ → TextDrawn
  answer len = draw_string s rec mode text len lay

  walked_whole : (len : ℕ) (t : TextRows) → answer len ≡ TextDrawn.Done t
      → Walked len (in_text s rec mode lay len cs origin) (whole_from cs origin) (spots_of s rec mode lay text) 0 t.dropped
  unfolding draw_string
  walked_whole len t e = walked_text len cs origin 0 t (was_ready (ready s rec text lay) (text_from s rec mode lay len cs origin 0) t e)

  abbrev rule_of : ℕ → TextDrawn → ℕ → Bool
  rule_of len (TextDrawn.Done t) k = in_text s rec mode lay len cs origin k
  rule_of len (TextDrawn.Refused r) k = false

  string_is : (colour : ℕ) (old : List ℕ) (a : TextDrawn) → string_leaves s rec mode text lay colour a old ≡ painted (rule_of (length old) a) colour old
  string_is colour old (TextDrawn.Done t) = refl
  string_is colour old (TextDrawn.Refused r) = sym (painted_none (λ k. false) colour old (λ k h. refl))

  string_none : (len : ℕ) (a : TextDrawn) → ((said_text a).number ≡ 0 → ⊥) → (k : ℕ) → rule_of len a k ≡ false
  string_none len (TextDrawn.Done t) e k = absurd (e refl)
  string_none len (TextDrawn.Refused r) e k = refl

  string_lit : (len : ℕ) (a : TextDrawn) → answer len ≡ a → (k : ℕ) → text_coloured s rec mode text lay len a k → rule_of len a k ≡ true
  string_lit len (TextDrawn.Done t) e k l = ((walked_whole len t e).inked k).1 l
  string_lit len (TextDrawn.Refused r) e k l = absurd l

  string_found : (len : ℕ) (a : TextDrawn) → answer len ≡ a → (k : ℕ) → rule_of len a k ≡ true → text_coloured s rec mode text lay len a k
  string_found len (TextDrawn.Done t) e k l = ((walked_whole len t e).inked k).0 l
  string_found len (TextDrawn.Refused r) e k l = never l

  string_inside : (len : ℕ) (a : TextDrawn) → answer len ≡ a → (k : ℕ) → len ≤ k → rule_of len a k ≡ false
  string_inside len (TextDrawn.Done t) e k h = (walked_whole len t e).inside k h
  string_inside len (TextDrawn.Refused r) e k h = refl

  string_whole : (len : ℕ) (a : TextDrawn) → answer len ≡ a → whole_text a ≡ true → (k : ℕ) → rule_of len a k ≡ whole_from cs origin k
  string_whole len (TextDrawn.Done t) e all k = (walked_whole len t e).whole (eqb-true t.dropped 0 all) k
  string_whole len (TextDrawn.Refused r) e all k = never all

  pub string_keeps : (colour : ℕ) → Keeps (string_call s rec mode text lay colour)
  string_keeps colour =
      by_length (string_call s rec mode text lay colour) (λ len. rule_of len (answer len)) (λ old. string_is colour old (answer (length old)))
      (λ len. string_lit len (answer len) refl) (λ len. string_found len (answer len) refl)
      (λ len. string_none len (answer len)) (λ len. string_inside len (answer len) refl)
      (λ len more e f k. string_whole more (answer more) refl f k ∙ sym (string_whole len (answer len) refl e k))

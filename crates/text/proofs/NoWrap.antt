-- Why one number can stand for no wrap: no text reaches a width of 2^64 - 1 pixels, so a text set to wrap there has the answer and the
-- pixels of one that never wraps. The font's numbers have to be bytes, for a metric is as large as those that it is read from.
use Prim.Native.Nat.{ℕ, ◌+◌, ◌<◌}
use mathlib.Core.Path.{◌≡◌, refl, sym, ap, ◌∙◌}
use mathlib.Core.Bool.{Bool, ◌||◌}
use mathlib.Core.List.{List, [], ◌∷◌}
use native.Mathlib.Omega.{arith}
use lib.Dec.{eqb, leb}
use lib.ListN.{length}
use borrow.Author.Tests.{eqb-true, lt-leb}
use Rattle.reads.specs.Num.{Octets}
use Rattle.reads.specs.declared.GlyphIndex.{GlyphIndex}
use Rattle.reads.proofs.Tests.{split, either}
use Rattle.tables.specs.declared.Record.{Record}
use Rattle.modes.specs.declared.Mode.{Mode}
use Rattle.lookup.specs.Served.{served}
use Rattle.lookup.specs.declared.Served.{Served}
use Rattle.metrics.specs.Measure.{glyph_metrics, metrics_of}
use Rattle.metrics.specs.declared.Measured.{Measured}
use Rattle.metrics.proofs.Widths.{width_small}
use Rattle.bitmaps.specs.Paint.{painted}
use Rattle.place.specs.Bounds.{bounds_of}
use Rattle.place.specs.Info.{placeable, boxed, with_metrics, info_of, info_in}
use Rattle.place.specs.declared.GlyphInfo.{GlyphInfo}
use Rattle.place.specs.declared.Prepared.{Prepared}
use Rattle.utf8.specs.Decode.{Char, decoded, chars_of, checked_text}
use Rattle.utf8.specs.Step.{step_at}
use Rattle.utf8.specs.declared.Checked.{Checked}
use Rattle.utf8.specs.declared.Step.{Step}
use Rattle.utf8.proofs.Walk.{step_within, Left, left_end, left_bad, left_char, left_all}
use Rattle.text.specs.Walk.{origin, advance_of, moved, wrap_of, wrapped, place_info, place_served, placed, placed_drawn, pen_after, in_placed}
use Rattle.text.specs.Text.{after_char, text_from, in_text, ready_text, ready, when_ready, draw_string, string_leaves}
use Rattle.text.specs.Within.{Settled, PenIn, Moved, placed_pen, Readable}
use Rattle.text.specs.declared.Layout.{Layout}
use Rattle.text.specs.declared.Pen.{Pen}
use Rattle.text.specs.declared.Placed.{Placed}
use Rattle.text.specs.declared.Ready.{Ready}
use Rattle.text.specs.declared.TextDrawn.{TextDrawn}
use Rattle.text.specs.declared.Wrap.{Wrap}
use Rattle.text.proofs.PenBounds.{pen_more, moved_in, moved_skip, moved_glyph, moved_refused, advance_most, settled_low}
use Rattle.text.proofs.BeforeFirst.{is_settled, is_readable}

-- the same layout with this wrap
abbrev pub wrapping : Layout → Wrap → Layout
wrapping lay w = record { start = lay.start; wrap = w; stride = lay.stride; scale = lay.scale }

-- what was placed is no wider than 16 bits hold
abbrev Narrow : Placed → Type 0
Narrow (Placed.Skip pen) = Unit {0}
Narrow (Placed.Glyph pen i) = i.width < 65536
Narrow (Placed.Refused n) = Unit {0}

module _ (s : List ℕ) (octets : Octets s) (rec : Record) (mode : Mode) where
  module _ (lay : Layout) (pen : Pen) where
    info_narrow : (g : GlyphIndex) → Narrow (place_info rec lay pen (info_in s rec g))
    unfolding info_of metrics_of
    info_narrow g =
        let m = glyph_metrics s rec.metrics g.0 in
        let P : Measured → Type 0 = λ x. Narrow (place_info rec lay pen (with_metrics x (λ m. boxed g m (bounds_of rec).ascent))) in
        let Q : Prepared → Type 0 = λ x. Narrow (place_info rec lay pen x) in
        either P (leb rec.metrics.count g.0) tt (either Q (placeable m (bounds_of rec).ascent) (width_small s octets rec.metrics g.0) tt)

    found_narrow : (x : Served) → Narrow (place_served s rec lay pen x)
    found_narrow (Served.Glyph g by) = info_narrow g
    found_narrow (Served.Refused r) = tt

    placed_narrow : (code : ℕ) → Narrow (placed s rec mode lay code pen)
    unfolding placed
    placed_narrow code = either Narrow (eqb code 13) tt (either Narrow (eqb code 10) tt (found_narrow (served s rec.codes mode code)))

  -- ---- a line's end that no text reaches: 65,535 glyphs of 65,535 columns take 65,535 × 65,535 × 64 pixels at scale 64

  module _ (lay : Layout) (w : ℕ) (wrap-is : lay.wrap ≡ Wrap.At w) (far : 274869518400 < w) where
    abbrev free : Layout
    free = wrapping lay Wrap.Never

    -- what does not ask for the wrap
    drawn_same : (len : ℕ) (p : Placed) → placed_drawn s rec lay len p ≡ placed_drawn s rec free len p
    unfolding placed_drawn
    drawn_same len (Placed.Skip q) = refl
    drawn_same len (Placed.Glyph q i) = refl
    drawn_same len (Placed.Refused n) = refl

    ink_same : (len : ℕ) (p : Placed) (k : ℕ) → in_placed s rec lay len p k ≡ in_placed s rec free len p k
    ink_same len (Placed.Skip q) k = refl
    ink_same len (Placed.Glyph q i) k = refl
    ink_same len (Placed.Refused n) k = refl

    pen_same : (p : Placed) (pen : Pen) → pen_after lay p pen ≡ pen_after free p pen
    pen_same (Placed.Skip q) pen = refl
    pen_same (Placed.Glyph q i) pen = refl
    pen_same (Placed.Refused n) pen = refl

    text_ready : (a : Checked) → ready_text rec lay a ≡ ready_text rec free a
    text_ready Checked.Whole = refl
    text_ready (Checked.Refused r) = refl

    ready_same : (text : List ℕ) → ready s rec text lay ≡ ready s rec text free
    unfolding ready
    ready_same text = rw (text_ready (checked_text text)) refl

    -- the same answer and the same colouring of these characters, with the pen here
    record Same (len : ℕ) (cs : List Char) (pen : Pen) : Type 0 where
      pub answer : (dropped : ℕ) → text_from s rec mode lay len cs pen dropped ≡ text_from s rec mode free len cs pen dropped
      pub ink : (k : ℕ) → in_text s rec mode lay len cs pen k ≡ in_text s rec mode free len cs pen k

    same_end : (len : ℕ) (pen : Pen) → Same len [] pen
    unfolding text_from in_text
    same_end len pen = record { answer = λ dropped. refl; ink = λ k. refl }

    same_on : (len : ℕ) (c : Char) (cs : List Char) (pen : Pen) → placed s rec mode lay c.code pen ≡ placed s rec mode free c.code pen
        → Same len cs (pen_after lay (placed s rec mode lay c.code pen) pen) → Same len (c ∷ cs) pen
    unfolding text_from in_text
    same_on len c cs pen same rest =
        let p = placed s rec mode lay c.code pen in
        record {
          answer = λ dropped.
              rw (← same, ← drawn_same len p, ← pen_same p pen)
              (ap (after_char (placed_drawn s rec lay len p) c.byte) (λ i more. rest.answer (dropped + more) i));
          ink = λ k. rw (← same, ← ink_same len p k, ← pen_same p pen) (ap (◌||◌ (in_placed s rec lay len p k)) (rest.ink k));
        }

    -- a walk over a text, in a layout within its limits
    module _ (line : ℕ) (settled : Settled rec lay line) where
      -- the k-th character, from 0
      module _ (k : ℕ) (pen : Pen) (few : k < 65535) (here : PenIn k pen) where
        wrapped_same : (i : GlyphInfo) → i.width < 65536 → wrapped rec lay i pen ≡ wrapped rec free i pen
        unfolding wrapped
        wrapped_same i h =
            let x = pen.x + advance_of lay i in
            let near : x < w = omega (arith, (pen_more k 65534 pen (omega arith) here).x_in, advance_most lay i h settled.scale_high) in
            rw (wrap-is, lt-leb w x near) refl

        info_same : (x : Prepared) → Narrow (place_info rec lay pen x) → place_info rec lay pen x ≡ place_info rec free pen x
        info_same (Prepared.Info i) h = ap (λ (q : Pen). Placed.Glyph q i) (wrapped_same i h)
        info_same (Prepared.Refused r) h = refl

        found_same : (x : Served) → place_served s rec lay pen x ≡ place_served s rec free pen x
        found_same (Served.Glyph g by) = info_same (info_in s rec g) (info_narrow lay pen g)
        found_same (Served.Refused r) = refl

        placed_same : (code : ℕ) → placed s rec mode lay code pen ≡ placed s rec mode free code pen
        unfolding placed
        placed_same code = rw (found_same (served s rec.codes mode code)) refl

        goes : (p : Placed) → Narrow p → Moved (placed_pen p pen) (pen_after lay p pen)
        goes (Placed.Skip q) h = moved_skip pen (Placed.Skip q) q refl
        goes (Placed.Glyph q i) h = moved_glyph pen (Placed.Glyph q i) lay q (moved lay i q) i (advance_of lay i) refl refl h settled.scale_high refl
        goes (Placed.Refused n) h = moved_refused pen (Placed.Refused n) n refl

        next_in : (code : ℕ) → PenIn (k + 1) (pen_after lay (placed s rec mode lay code pen) pen)
        next_in code =
            let p = placed s rec mode lay code pen in
            moved_in s rec mode lay pen k here (settled_low rec lay line settled) code (pen_after lay p pen) (goes p (placed_narrow lay pen code))

      module _ (text : List ℕ) (readable : Readable text) (len : ℕ) where
        same_from : (cs : List Char) (i : ℕ) (pen : Pen) → Left text i cs → PenIn i pen → Same len cs pen
        same_from [] i pen left here = same_end len pen
        same_from (c ∷ cs) i pen left here = by (step_at text i) refl (same_from cs)
          where
            by : (x : Step) → step_at text i ≡ x → ((next : ℕ) (pen : Pen) → Left text next cs → PenIn next pen → Same len cs pen) → Same len (c ∷ cs) pen
            by (Step.Char code next) e later =
                let (rest, is, left_After) = left_char text i (c ∷ cs) code next left e in
                let (on, inside) = step_within text i code next e in
                let few : i < 65535 = omega (arith, readable.is_short) in
                let same : rest ≡ cs = cc in
                let q = pen_after lay (placed s rec mode lay c.code pen) pen in
                same_on len c cs pen (placed_same i pen few here c.code)
                (later next q (rw same at left_After) (pen_more (i + 1) next q (omega arith) (next_in i pen few here c.code)))
            by Step.End e later = let z = ap length (left_end text i (c ∷ cs) left e) in absurd (omega (arith, z))
            by (Step.Refused r) e later = absurd (left_bad text i (c ∷ cs) r left e)

        same_text : Same len (chars_of (decoded text)) origin
        same_text =
            let cs = chars_of (decoded text) in
            same_from cs 0 origin (left_all text cs readable.is_chars) (record { x_in = omega arith; y_in = omega arith })

    -- the whole call: refused alike before the first character, or walked alike
    module _ (text : List ℕ) where
      same_ready : (len line : ℕ) → ready s rec text lay ≡ Ready.Line line → Same len (chars_of (decoded text)) origin
      same_ready len line e =
          let r = ready s rec text lay in
          same_text line (is_settled rec lay line s text r refl e) text (is_readable rec lay line s text r refl e) len

      abbrev walked : Layout → ℕ → TextDrawn
      walked l len = text_from s rec mode l len (chars_of (decoded text)) origin 0

      same_answer : (len : ℕ) (x : Ready) → ready s rec text lay ≡ x → when_ready x (walked lay len) ≡ when_ready x (walked free len)
      same_answer len (Ready.Line line) e = (same_ready len line e).answer 0
      same_answer len (Ready.Refused r) e = refl

      far_is_none : (len : ℕ) → draw_string s rec mode text len lay ≡ draw_string s rec mode text len free
      unfolding draw_string
      far_is_none len = rw (← ready_same text) (same_answer len (ready s rec text lay) refl)

      module _ (colour : ℕ) (old : List ℕ) where
        abbrev left : Layout → TextDrawn → List ℕ
        left l a = string_leaves s rec mode text l colour a old

        inked_same : Same (length old) (chars_of (decoded text)) origin → (a : TextDrawn) → left lay a ≡ left free a
        inked_same same (TextDrawn.Done t) = ap (λ (rule : ℕ → Bool). painted rule colour old) (λ i k. same.ink k i)
        inked_same same (TextDrawn.Refused r) = refl

        same_left : (x : Ready) → ready s rec text lay ≡ x
            → left lay (when_ready x (walked lay (length old))) ≡ left free (when_ready x (walked free (length old)))
        same_left (Ready.Line line) e =
            inked_same (same_ready (length old) line e) (walked lay (length old)) ∙ ap (left free) (same_answer (length old) (Ready.Line line) e)
        same_left (Ready.Refused r) e = refl

        far_leaves : left lay (draw_string s rec mode text (length old) lay) ≡ left free (draw_string s rec mode text (length old) free)
        unfolding draw_string
        far_leaves = rw (← ready_same text) (same_left (ready s rec text lay) refl)

-- ---- the number with every bit set

abbrev widest : ℕ
widest = 18446744073709551615

module _ (s : List ℕ) (octets : Octets s) (rec : Record) (mode : Mode) (text : List ℕ) (lay : Layout) where
  -- the answer with this wrap, and the pixels left
  abbrev drawn : Wrap → ℕ → TextDrawn
  drawn w len = draw_string s rec mode text len (wrapping lay w)

  abbrev leaves : Wrap → ℕ → List ℕ → List ℕ
  leaves w colour old = string_leaves s rec mode text (wrapping lay w) colour (drawn w (length old)) old

  pub widest_is_none : (len : ℕ) → drawn (Wrap.At widest) len ≡ drawn Wrap.Never len
  widest_is_none len = far_is_none s octets rec mode (wrapping lay (Wrap.At widest)) widest refl (omega arith) text len

  pub widest_leaves : (colour : ℕ) (old : List ℕ) → leaves (Wrap.At widest) colour old ≡ leaves Wrap.Never colour old
  widest_leaves colour old = far_leaves s octets rec mode (wrapping lay (Wrap.At widest)) widest refl (omega arith) text colour old

  -- so that any number taken for a wrap is drawn as a wrap there
  pub wrap_of_drawn : (n len : ℕ) → drawn (wrap_of n) len ≡ drawn (Wrap.At n) len
  unfolding wrap_of
  wrap_of_drawn n len = split (eqb n widest) (λ t. rw (eqb-true n widest t) (sym (widest_is_none len))) (λ t. rw t refl)

  pub wrap_of_leaves : (n colour : ℕ) (old : List ℕ) → leaves (wrap_of n) colour old ≡ leaves (Wrap.At n) colour old
  unfolding wrap_of
  wrap_of_leaves n colour old = split (eqb n widest) (λ t. rw (eqb-true n widest t) (sym (widest_leaves colour old))) (λ t. rw t refl)

-- How far down the pen comes in a text: no character lowers it by more than a line, and no text has more characters than bytes.
use Prim.Native.Nat.{ℕ, zero, suc, ◌+◌, ◌-◌, ◌*◌, ◌≤◌}
use mathlib.Core.Path.{◌≡◌, refl, sym}
use mathlib.Core.List.{List, [], ◌∷◌}
use native.Mathlib.Nat.{mul-suc, mul-le-mul_left}
use native.Mathlib.Numerals.{add-one}
use native.Mathlib.Omega.{arith}
use lib.ListN.{length}
use Rattle.tables.specs.declared.Record.{Record}
use Rattle.modes.specs.declared.Mode.{Mode}
use Rattle.utf8.specs.Step.{step_at}
use Rattle.utf8.specs.Decode.{Char, Decoded, chars, refused, cons_char, after_step, decode_from, decoded, chars_of}
use Rattle.utf8.specs.declared.Step.{Step}
use Rattle.utf8.proofs.Walk.{step_within}
use Rattle.text.specs.Within.{placed_pen}
use Rattle.text.specs.Walk.{origin, line_height, placed, placed_drawn, pen_after}
use Rattle.text.specs.declared.Layout.{Layout}
use Rattle.text.specs.declared.Pen.{Pen}
use Rattle.text.specs.declared.Placed.{Placed}
use Rattle.text.specs.Text.{text_from, ready, draw_string}
use Rattle.text.specs.declared.TextDrawn.{TextDrawn}
use Rattle.text.specs.declared.TextRows.{TextRows}
use Rattle.text.proofs.PenBounds.{placed_lower}
use Rattle.promises.specs.Texts.{end_from, end_of}
use Rattle.promises.proofs.DrawnText.{of_rows, was_ready}

module _ (s : List ℕ) (rec : Record) (mode : Mode) (lay : Layout) where
  abbrev line : ℕ
  line = line_height rec lay.scale

  -- no character lowers the pen by more than a line
  placed_y : (pen : Pen) (p : Placed) → (pen_after lay p pen).y ≡ (placed_pen p pen).y
  placed_y pen (Placed.Skip q) = refl
  placed_y pen (Placed.Glyph q i) = refl
  placed_y pen (Placed.Refused n) = refl

  char_lowers : (code : ℕ) (pen : Pen) → (pen_after lay (placed s rec mode lay code pen) pen).y ≤ pen.y + line
  char_lowers code pen = rw (placed_y pen (placed s rec mode lay code pen)) (placed_lower s rec mode lay pen code).y_most

  text_lowers : (cs : List Char) (pen : Pen) → (end_from s rec mode lay cs pen).y ≤ pen.y + line * length cs
  unfolding end_from
  text_lowers [] pen = omega arith
  text_lowers (c ∷ cs) pen =
      let q = pen_after lay (placed s rec mode lay c.code pen) pen in
      omega (arith, char_lowers c.code pen, text_lowers cs q, mul-suc line (length cs))

module _ (text : List ℕ) where
  -- no more characters than bytes
  few_after : (c : Char) (k : ℕ) (d : Decoded) → length (chars_of d) ≤ k → length (chars_of (cons_char c d)) ≤ suc k
  few_after c k (chars cs) h = omega (arith, h)
  few_after c k (refused r) h = omega arith

  few_from : (fuel i : ℕ) → i ≤ length text → length (chars_of (decode_from fuel text i)) ≤ length text - i
  unfolding decode_from
  few_from zero i h = omega arith
  few_from (suc fuel) i h = by (step_at text i) refl (few_from fuel)
    where
      by : (x : Step) → step_at text i ≡ x
          → ((next : ℕ) → next ≤ length text → length (chars_of (decode_from fuel text next)) ≤ length text - next)
          → length (chars_of (after_step x i (λ next. decode_from fuel text next))) ≤ length text - i
      by (Step.Char c next) e few =
          let (on, in-text) = step_within text i c next e in
          let rest = decode_from fuel text next in
          omega (arith, on, in-text, few_after (record { byte = i; code = c.0 }) (length text - next) rest (few next in-text))
      by Step.End e few = omega arith
      by (Step.Refused r) e few = omega arith

  few_chars : length (chars_of (decoded text)) ≤ length text
  unfolding decoded
  few_chars = omega (arith, few_from (suc (length text)) 0 (omega arith))

  -- "The height never exceeds the line height times one more than the text's bytes"
  pub height_within : (s : List ℕ) (rec : Record) (mode : Mode) (lay : Layout)
      → (end_of s rec mode lay text).y + line_height rec lay.scale ≤ line_height rec lay.scale * (length text + 1)
  height_within s rec mode lay =
      let line = line_height rec lay.scale in
      let cs = chars_of (decoded text) in
      let lowered = text_lowers s rec mode lay cs origin in
      let most = mul-le-mul_left line few_chars in
      let one_more = mul-suc line (length text) in
      rw add-one (omega (arith, lowered, most, one_more))

-- ---- the height of a text that was drawn

module _ (s : List ℕ) (rec : Record) (mode : Mode) (lay : Layout) (len : ℕ) where
  drawn_height : (cs : List Char) (pen : Pen) (before : ℕ) (t : TextRows) → text_from s rec mode lay len cs pen before ≡ TextDrawn.Done t
      → t.height ≡ (end_from s rec mode lay cs pen).y + line_height rec lay.scale
  unfolding text_from end_from
  drawn_height [] pen before t e = let is : pen.y + line_height rec lay.scale ≡ t.height = cc in sym is
  drawn_height (c ∷ cs) pen before t e =
      let p = placed s rec mode lay c.code pen in
      let q = pen_after lay p pen in
      let (r, drawn, rest) = of_rows (placed_drawn s rec lay len p) c.byte (λ more. text_from s rec mode lay len cs q (before + more)) t e in
      drawn_height cs q (before + r.dropped) t rest

  -- with any font, text and layout
  pub height_most : (text : List ℕ) (t : TextRows) → draw_string s rec mode text len lay ≡ TextDrawn.Done t
      → t.height ≤ line_height rec lay.scale * (length text + 1)
  unfolding draw_string
  height_most text t e =
      let cs = chars_of (decoded text) in
      let is = drawn_height cs origin 0 t (was_ready (ready s rec text lay) (text_from s rec mode lay len cs origin 0) t e) in
      rw is (height_within text s rec mode lay)

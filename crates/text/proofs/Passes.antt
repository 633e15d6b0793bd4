-- One turn of a pass over a text: the whole answer is that of the characters that are left, and the whole colouring is colouring what
-- was placed and then what is left.
use Prim.Native.Nat.{ℕ, ◌+◌}
use mathlib.Core.Path.{◌≡◌, refl, sym, ap, ◌∙◌}
use mathlib.Core.Bool.{Bool, true, false, ◌&&◌}
use mathlib.Core.List.{List, [], ◌∷◌}
use native.Mathlib.Omega.{arith}
use Rattle.reads.specs.Said.{refusal}
use Rattle.reads.specs.declared.Refusal.{Refusal}
use Rattle.tables.specs.declared.Record.{Record}
use Rattle.modes.specs.declared.Mode.{Mode}
use Rattle.bitmaps.specs.Paint.{painted}
use Rattle.bitmaps.specs.declared.Drawn.{Drawn}
use Rattle.bitmaps.specs.declared.Rows.{Rows}
use Rattle.bitmaps.proofs.Searching.{and_none}
use Rattle.bitmaps.proofs.Painting.{painted_none, painted_or}
use Rattle.utf8.specs.Decode.{Char}
use Rattle.text.specs.Walk.{line_height, placed, placed_drawn, pen_after, in_placed}
use Rattle.text.specs.Text.{after_char, text_from, in_text}
use Rattle.text.specs.Inked.{inked}
use Rattle.text.specs.declared.Layout.{Layout}
use Rattle.text.specs.declared.Pen.{Pen}
use Rattle.text.specs.declared.Placed.{Placed}
use Rattle.text.specs.declared.TextDrawn.{TextDrawn}
use Rattle.text.specs.declared.TextRows.{TextRows}

pub is_done : (t : TextRows) (r : Refusal) → TextDrawn.Refused r ≡ TextDrawn.Done t → ⊥
is_done t r e = let z : ◌≡◌ {A = ℕ} 0 1 = cc in omega arith

-- without ink nothing is coloured, and with it what the rule has
pub no_ink : (rule : ℕ → Bool) (colour : ℕ) (old : List ℕ) → painted (inked false rule) colour old ≡ old
unfolding inked
no_ink rule colour old = painted_none (λ k. false) colour old (λ i h. refl)

pub dry : (ink : Bool) (rule : ℕ → Bool) (colour : ℕ) (old : List ℕ) → ink ≡ false → painted (inked ink rule) colour old ≡ old
dry ink rule colour old e = rw e (no_ink rule colour old)

pub all_ink : (rule : ℕ → Bool) (colour : ℕ) (old : List ℕ) → painted (inked true rule) colour old ≡ painted rule colour old
unfolding inked
all_ink rule colour old = refl

module _ (s : List ℕ) (rec : Record) (mode : Mode) (lay : Layout) (len : ℕ) (cs : List Char) (pen : Pen) where
  -- no character is left
  pub answer_end : (dropped : ℕ) → cs ≡ []
      → text_from s rec mode lay len cs pen dropped ≡ TextDrawn.Done (record { height = pen.y + line_height rec lay.scale; dropped = dropped })
  unfolding text_from
  answer_end dropped e = rw e refl

  pub ink_end : (ink : Bool) (colour : ℕ) (old : List ℕ) → cs ≡ [] → painted (inked ink (in_text s rec mode lay len cs pen)) colour old ≡ old
  unfolding inked in_text
  ink_end ink colour old e = rw e (painted_none (λ k. ink && false) colour old (λ i h. and_none ink false refl))

  -- a character was placed so
  module _ (i code : ℕ) (rest : List Char) (e : cs ≡ record { byte = i; code = code } ∷ rest) (p : Placed) (is : p ≡ placed s rec mode lay code pen) where
    turn : (dropped : ℕ) → text_from s rec mode lay len cs pen dropped
        ≡ after_char (placed_drawn s rec lay len p) i (λ more. text_from s rec mode lay len rest (pen_after lay p pen) (dropped + more))
    unfolding text_from
    turn dropped = rw (e, is) refl

    pub answer_on : (dropped : ℕ) (r : Rows) → placed_drawn s rec lay len p ≡ Drawn.Rows r
        → text_from s rec mode lay len cs pen dropped ≡ text_from s rec mode lay len rest (pen_after lay p pen) (dropped + r.dropped)
    answer_on dropped r d =
        turn dropped ∙ ap (λ (x : Drawn). after_char x i (λ more. text_from s rec mode lay len rest (pen_after lay p pen) (dropped + more))) d

    pub answer_stop : (dropped : ℕ) (r : Refusal) → placed_drawn s rec lay len p ≡ Drawn.Refused r
        → text_from s rec mode lay len cs pen dropped ≡ TextDrawn.Refused (refusal r.number i)
    answer_stop dropped r d =
        turn dropped ∙ ap (λ (x : Drawn). after_char x i (λ more. text_from s rec mode lay len rest (pen_after lay p pen) (dropped + more))) d

    pub ink_on : (ink : Bool) (colour : ℕ) (old : List ℕ) → painted (inked ink (in_text s rec mode lay len cs pen)) colour old
        ≡ painted (inked ink (in_text s rec mode lay len rest (pen_after lay p pen))) colour (painted (inked ink (in_placed s rec lay len p)) colour old)
    unfolding inked in_text
    ink_on true colour old =
        rw (e, is)
        (painted_or (in_placed s rec lay len (placed s rec mode lay code pen)) (in_text s rec mode lay len rest (pen_after lay (placed s rec mode lay code pen) pen)) colour old)
    ink_on false colour old =
        no_ink (in_text s rec mode lay len cs pen) colour old
        ∙ sym (no_ink (in_text s rec mode lay len rest (pen_after lay p pen)) colour (painted (inked false (in_placed s rec lay len p)) colour old) ∙ no_ink (in_placed s rec lay len p) colour old)

-- What a mode does to a text: a code is skipped exactly if no glyph shows it, and a text whose every code has a glyph is drawn in default
-- mode as in the plain one.
use Prim.Native.Nat.{ℕ, ◌+◌}
use mathlib.Core.Path.{◌≡◌, refl, sym, ap, ◌∙◌}
use mathlib.Core.Bool.{Bool, true, ◌||◌}
use mathlib.Core.List.{List, [], ◌∷◌}
use mathlib.Core.Logic.{◌↔◌, ⊎_elim}
use native.Mathlib.Omega.{arith}
use lib.ListN.{length}
use borrow.Author.Tests.{ne_eqb}
use Rattle.tables.specs.declared.Record.{Record}
use Rattle.modes.specs.declared.Mode.{Mode}
use Rattle.lookup.specs.Served.{served}
use Rattle.bitmaps.specs.Paint.{painted}
use Rattle.place.specs.Info.{info_in}
use Rattle.place.specs.declared.Prepared.{Prepared}
use Rattle.utf8.specs.Decode.{Char, decoded, chars_of}
use Rattle.text.specs.Walk.{origin, place_info, place_served, placed, placed_drawn, pen_after, in_placed}
use Rattle.text.specs.Text.{after_char, text_from, in_text, ready, when_ready, draw_string, string_leaves}
use Rattle.text.specs.declared.Layout.{Layout}
use Rattle.text.specs.declared.Pen.{Pen}
use Rattle.text.specs.declared.Placed.{Placed}
use Rattle.text.specs.declared.TextDrawn.{TextDrawn}
use Rattle.promises.specs.Serving.{HasNone, Unshown, OwnOrBreak, AllOwnOrBreak}
use Rattle.promises.proofs.Serving.{own_served, unserved_exactly, served_or_9, served_exactly}

-- ---- which codes are skipped

not_skipped : (rec : Record) (lay : Layout) (pen : Pen) (x : Prepared) → place_info rec lay pen x ≡ Placed.Skip pen → ⊥
not_skipped rec lay pen (Prepared.Info i) e = let z : ◌≡◌ {A = ℕ} 0 1 = cc in omega arith
not_skipped rec lay pen (Prepared.Refused r) e = let z : ◌≡◌ {A = ℕ} 0 1 = cc in omega arith

module _ (s : List ℕ) (rec : Record) (lay : Layout) (code : ℕ) (pen : Pen) (no_return : code ≡ 13 → ⊥) (no-newline : code ≡ 10 → ⊥) where
  looked_up : (mode : Mode) → placed s rec mode lay code pen ≡ place_served s rec lay pen (served s rec.codes mode code)
  unfolding placed
  looked_up mode = rw (ne_eqb code 13 no_return, ne_eqb code 10 no-newline) refl

  pub skipped_exactly : (mode : Mode) → (placed s rec mode lay code pen ≡ Placed.Skip pen) ↔ Unshown s rec mode code
  skipped_exactly mode = (
    λ e.
        ⊎_elim (unserved_exactly s rec mode code).0
        (λ (g, by, shown).
        let found = (served_exactly s rec mode code g by).1 shown in
        absurd (not_skipped rec lay pen (info_in s rec (record { 0 = g })) (ap (place_served s rec lay pen) (sym found) ∙ sym (looked_up mode) ∙ e)))
        (served_or_9 s rec mode code),
    λ u. looked_up mode ∙ ap (place_served s rec lay pen) ((unserved_exactly s rec mode code).1 u),
  )

  -- "a code is skipped in default mode exactly if neither it nor the default code has a glyph"
  pub skipped_default : (mode : Mode) → mode.default ≡ true
      → (placed s rec mode lay code pen ≡ Placed.Skip pen) ↔ (HasNone s rec code × HasNone s rec rec.codes.default)
  skipped_default mode wanted = (
    λ e. let u = (skipped_exactly mode).0 e in (u.has_none, u.default_none wanted),
    λ (none, default_none). (skipped_exactly mode).1 (record { has_none = none; default_none = λ t. default_none }),
  )

-- ---- a text whose every code has a glyph, in two modes, which differ at most in `default`

module _ (s : List ℕ) (rec : Record) (m n : Mode) (lay : Layout) where
  placed_alike : (code : ℕ) (pen : Pen) → OwnOrBreak s rec code → placed s rec m lay code pen ≡ placed s rec n lay code pen
  unfolding placed
  placed_alike code pen =
      ⊎_elim (λ e. rw e refl)
      (⊎_elim (λ e. rw e refl) (λ (g, has). rw (own_served s rec m code g has, own_served s rec n code g has) refl))

  module _ (len : ℕ) where
    text_alike : (cs : List Char) (pen : Pen) (dropped : ℕ) → AllOwnOrBreak s rec cs
        → text_from s rec m lay len cs pen dropped ≡ text_from s rec n lay len cs pen dropped
    unfolding text_from
    text_alike [] pen dropped all = refl
    text_alike (c ∷ cs) pen dropped (one, all) =
        let p = placed s rec n lay c.code pen in
        rw (placed_alike c.code pen one)
        (ap (after_char (placed_drawn s rec lay len p) c.byte) (λ i more. text_alike cs (pen_after lay p pen) (dropped + more) all i))

    ink_alike : (cs : List Char) (pen : Pen) (k : ℕ) → AllOwnOrBreak s rec cs → in_text s rec m lay len cs pen k ≡ in_text s rec n lay len cs pen k
    unfolding in_text
    ink_alike [] pen k all = refl
    ink_alike (c ∷ cs) pen k (one, all) =
        let p = placed s rec n lay c.code pen in
        rw (placed_alike c.code pen one) (ap (◌||◌ (in_placed s rec lay len p k)) (ink_alike cs (pen_after lay p pen) k all))

  module _ (text : List ℕ) (all : AllOwnOrBreak s rec (chars_of (decoded text))) where
    -- it is answered alike: in default mode as in the plain one
    pub answered_alike : (len : ℕ) → draw_string s rec m text len lay ≡ draw_string s rec n text len lay
    unfolding draw_string
    answered_alike len = ap (when_ready (ready s rec text lay)) (text_alike len (chars_of (decoded text)) origin 0 all)

    -- and leaves the same pixels
    pub drawn_alike : (colour : ℕ) (old : List ℕ)
        → string_leaves s rec m text lay colour (draw_string s rec m text (length old) lay) old
        ≡ string_leaves s rec n text lay colour (draw_string s rec n text (length old) lay) old
    drawn_alike colour old = rw (answered_alike (length old)) (leaves (draw_string s rec n text (length old) lay)) where
      leaves : (a : TextDrawn) → string_leaves s rec m text lay colour a old ≡ string_leaves s rec n text lay colour a old
      leaves (TextDrawn.Done t) =
          ap (λ (rule : ℕ → Bool). painted rule colour old) (λ i k. ink_alike (length old) (chars_of (decoded text)) origin k all i)
      leaves (TextDrawn.Refused r) = refl

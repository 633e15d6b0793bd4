-- What the answer and the pixels of a text say of its glyphs, with a font that passed vetting.
use Prim.Native.Nat.{ℕ, ◌+◌, ◌-◌}
use mathlib.Core.Path.{◌≡◌, refl, sym, subst, ◌∙◌}
use mathlib.Core.Bool.{Bool, true, false, ◌||◌}
use mathlib.Core.List.{List, [], ◌∷◌}
use mathlib.Core.Logic.{◌↔◌, inl, inr, ⊎_elim}
use native.Mathlib.Omega.{arith}
use Rattle.reads.proofs.Tests.{never, split, or_first_lem, or_second, or_cases}
use Rattle.tables.specs.declared.Record.{Record}
use Rattle.modes.specs.declared.Mode.{Mode}
use Rattle.bitmaps.specs.Picture.{glyph_bit}
use Rattle.glyphs.specs.Glyph.{in_info}
use Rattle.vet.specs.Vet.{vetted}
use Rattle.vet.specs.declared.Vetted.{Vetted}
use Rattle.utf8.specs.Decode.{Char}
use Rattle.text.specs.Walk.{line_height, moved, placed, spot, placed_drawn, pen_after, in_placed}
use Rattle.text.specs.Text.{after_char, text_from, in_text}
use Rattle.text.specs.declared.Layout.{Layout}
use Rattle.text.specs.declared.Pen.{Pen}
use Rattle.text.specs.declared.Placed.{Placed}
use Rattle.text.specs.declared.TextDrawn.{TextDrawn}
use Rattle.promises.specs.Texts.{Spot, spot_before, spots_from, end_from, Some, spot_place, spot_rows, dropped_rows, Inked, Beyond, FirstBeyond}
use Rattle.promises.proofs.Coloured.{lit_dot, found_dot, past_dot, dot_past}
use Rattle.promises.proofs.PassedChars.{past_at, Only16, placed_only}

module _ (s : List ℕ) (rec : Record) (lay : Layout) (len : ℕ) where
  abbrev pub IsBeyond : Spot → Type 0
  IsBeyond = Beyond lay len s rec

  -- ---- 16, of one glyph

  past_beyond : (x : Spot) → past_at s rec lay len x.pen x.info ≡ true → IsBeyond x
  past_beyond x =
      dot_past (glyph_bit s rec.bitmaps x.info.glyph.0 x.info.width) (spot_place lay len x) x.info.width
      (spot_rows lay len x) len

  beyond_past : (x : Spot) → IsBeyond x → past_at s rec lay len x.pen x.info ≡ true
  beyond_past x (i, h, d) =
      past_dot (glyph_bit s rec.bitmaps x.info.glyph.0 x.info.width) (spot_place lay len x) x.info.width
      (spot_rows lay len x) len i h d

  none_past : (x : Spot) → past_at s rec lay len x.pen x.info ≡ false → IsBeyond x → ⊥
  none_past x e b = never (sym e ∙ beyond_past x b)

  -- ---- the answer

  -- what a text's answer tells of its glyphs, of the pen after them, and of the rows dropped before and in them
  abbrev pub Told : TextDrawn → List Spot → Pen → ℕ → Type 0
  Told (TextDrawn.Done t) xs end before =
      (Some IsBeyond xs → ⊥) × (t.height ≡ end.y + line_height rec lay.scale) × (t.dropped ≡ before + dropped_rows lay len xs)
  Told (TextDrawn.Refused r) xs end before = (r.number ≡ 16) × FirstBeyond lay len s rec r.place xs

  -- a glyph that has room before others
  told_glyph : (x : Spot) (xs : List Spot) (end : Pen) (before : ℕ) → (IsBeyond x → ⊥)
      → (a : TextDrawn) → Told a xs end (before + (x.info.height - spot_rows lay len x)) → Told a (x ∷ xs) end before
  told_glyph x xs end before room (TextDrawn.Done t) (none, height, dropped) = (⊎_elim room none, height, omega (arith, dropped))
  told_glyph x xs end before room (TextDrawn.Refused r) (number, first) = (number, inr (room, first))

  -- one character, before the rest
  module _ (byte : ℕ) (rest : Pen → ℕ → TextDrawn) (after : Pen → List Spot) (end : Pen → Pen) (told : (q : Pen) (d : ℕ) → Told (rest q d) (after q) (end q) d) where
    told_char : (pen : Pen) (before : ℕ) (p : Placed) → Only16 s rec lay len p
        → let q = pen_after lay p pen in
        Told (after_char (placed_drawn s rec lay len p) byte (λ more. rest q (before + more))) (spot_before byte p (after q)) (end q) before
    unfolding placed_drawn
    told_char pen before (Placed.Skip q) only = subst (λ (d : ℕ). Told (rest q d) (after q) (end q) before) (omega arith) (told q before)
    told_char pen before (Placed.Glyph q i) only =
        let x : Spot = record { byte = byte; pen = q; info = i } in
        let next = moved lay i q in
        let dropped = before + (i.height - spot_rows lay len x) in
        rw only
        (split (past_at s rec lay len q i) (λ e. rw e (refl, inl (refl, past_beyond x e)))
        (λ e. rw e (told_glyph x (after next) (end next) before (none_past x e) (rest next dropped) (told next dropped))))
    told_char pen before (Placed.Refused n) only = absurd only

  module _ (passed : vetted s ≡ Vetted.Passed rec) (mode : Mode) where
    pub told_text : (cs : List Char) (pen : Pen) (before : ℕ)
        → Told (text_from s rec mode lay len cs pen before) (spots_from s rec mode lay cs pen) (end_from s rec mode lay cs pen) before
    unfolding text_from spots_from end_from
    told_text [] pen before = (λ none. none, refl, omega arith)
    told_text (c ∷ cs) pen before =
        told_char c.byte (text_from s rec mode lay len cs) (spots_from s rec mode lay cs) (end_from s rec mode lay cs) (told_text cs) pen before
        (placed s rec mode lay c.code pen) (placed_only s rec lay len passed mode c.code pen)

  -- ---- the pixels, where every glyph has room

  module _ (k : ℕ) where
    abbrev pub IsInked : Spot → Type 0
    IsInked = Inked lay len s rec k

    -- one character, before the rest
    inked_char : (byte : ℕ) (p : Placed) → Only16 s rec lay len p
        → (more : Bool) (xs : List Spot) → ((Some IsBeyond xs → ⊥) → (more ≡ true) ↔ Some IsInked xs)
        → (Some IsBeyond (spot_before byte p xs) → ⊥) → (in_placed s rec lay len p k || more ≡ true) ↔ Some IsInked (spot_before byte p xs)
    inked_char byte (Placed.Skip q) only more xs same room = same room
    inked_char byte (Placed.Glyph q i) only more xs same room =
        let x : Spot = record { byte = byte; pen = q; info = i } in
        let bit = glyph_bit s rec.bitmaps i.glyph.0 i.width in
        let dot = in_info s rec.bitmaps i (spot lay q) (spot_rows lay len x) k in
        let (to, from) = same (λ b. room (inr b)) in
        split (past_at s rec lay len q i) (λ e. absurd (room (inl (past_beyond x e))))
        (λ e. rw (only, e) (
          λ t. ⊎_elim (λ d. inl (found_dot bit (spot_place lay len x) i.width (spot_rows lay len x) k d)) (λ m. inr (to m))
              (or_cases dot more t),
          ⊎_elim
              (λ d. or_first_lem dot more (lit_dot bit (spot_place lay len x) i.width (spot_rows lay len x) k d))
              (λ m. or_second dot more (from m)),
        ))
    inked_char byte (Placed.Refused n) only more xs same room = absurd only

    module _ (passed : vetted s ≡ Vetted.Passed rec) (mode : Mode) where
      pub inked_text : (cs : List Char) (pen : Pen) → (Some IsBeyond (spots_from s rec mode lay cs pen) → ⊥)
          → (in_text s rec mode lay len cs pen k ≡ true) ↔ Some IsInked (spots_from s rec mode lay cs pen)
      unfolding in_text spots_from
      inked_text [] pen room = (never, λ none. absurd none)
      inked_text (c ∷ cs) pen room =
          let p = placed s rec mode lay c.code pen in
          let q = pen_after lay p pen in
          inked_char c.byte p (placed_only s rec lay len passed mode c.code pen) (in_text s rec mode lay len cs q k) (spots_from s rec mode lay cs q) (inked_text cs q) room

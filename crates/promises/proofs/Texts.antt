-- With a font that passed vetting the panel shows of a text what `Shown` says.
use Prim.Native.Nat.{ℕ, ◌≤◌, ◌<◌}
use mathlib.Core.Path.{ap₂, ◌≡◌, refl, sym, ap, subst, ◌∙◌}
use mathlib.Core.Bool.{Bool, true, false, cond}
use mathlib.Core.List.{List, [], ◌∷◌}
use mathlib.Core.Logic.{◌↔◌, inl, inr, ⊎_elim}
use native.Mathlib.Omega.{arith}
use lib.IntN.{pos}
use lib.ListN.{length, get_or}
use borrow.Author.Tests.{le-leb}
use Rattle.reads.specs.Said.{Said, refusal, says, refuses}
use Rattle.reads.proofs.Tests.{split}
use Rattle.tables.specs.declared.Record.{Record}
use Rattle.modes.specs.declared.Mode.{Mode}
use Rattle.load.proofs.Serves.{loaded_serves}
use Rattle.bitmaps.specs.Place.{place_at}
use Rattle.bitmaps.specs.Limits.{ok_place}
use Rattle.bitmaps.proofs.Painting.{length-painted, get_or-painted}
use Rattle.vet.specs.Vet.{vetted}
use Rattle.vet.specs.declared.Vetted.{Vetted}
use Rattle.vet.proofs.Verdict.{passes_when}
use Rattle.utf8.specs.Decode.{decoded, chars_of, checked_text}
use Rattle.utf8.specs.declared.Checked.{Checked}
use Rattle.utf8.proofs.CheckedText.{well_whole}
use Rattle.text.specs.Walk.{origin}
use Rattle.text.specs.Text.{text_from, in_text, ready, draw_string, string_leaves, said_text}
use Rattle.text.specs.declared.Layout.{Layout}
use Rattle.text.specs.declared.TextDrawn.{TextDrawn}
use Rattle.text.specs.declared.TextRows.{TextRows}
use Rattle.promises.specs.Texts.{Spot, spots_of, end_of, Some, dropped_rows, Beyond, FirstBeyond, Given, IsRefusal, SomeBeyond, Defined, height, Shown}
use Rattle.promises.proofs.TextGlyphs.{Told, told_text, inked_text}
use Rattle.promises.proofs.TextHeight.{height_within}

-- within the limits 15 does not refuse
pub ok_place_lem : (start stride scale : ℕ) → start ≤ 2147483647 → 1 ≤ stride → stride ≤ 65535 → 1 ≤ scale → scale ≤ 64
    → ok_place (place_at start stride scale) ≡ true
ok_place_lem start stride scale a b c d e =
    rw (le-leb start 2147483647 a, le-leb 1 stride b, le-leb stride 65535 c, le-leb 1 scale d, le-leb scale 64 e) refl

module _ (s : List ℕ) (rec : Record) (mode : Mode) (text : List ℕ) (lay : Layout) (colour : ℕ) (old : List ℕ) where
  abbrev len : ℕ
  len = length old

  abbrev spots : List Spot
  spots = spots_of s rec mode lay text

  -- what the answer tells of a whole text
  abbrev ToldWhole : TextDrawn → Type 0
  ToldWhole a = Told s rec lay len a spots (end_of s rec mode lay text) 0

  abbrev IsSome : Type 0
  IsSome = SomeBeyond s rec mode text lay colour old

  -- ---- refused exactly when, and where

  first_some : (p : ℕ) (xs : List Spot) → FirstBeyond lay len s rec p xs → Some (Beyond lay len s rec) xs
  first_some p [] none = none
  first_some p (x ∷ xs) first = ⊎_elim (λ (is, b). inl b) (λ (room, later). inr (first_some p xs later)) first

  -- there is one first glyph without room
  first_same : (p q : ℕ) (xs : List Spot) → FirstBeyond lay len s rec p xs → FirstBeyond lay len s rec q xs → p ≡ q
  first_same p q [] f g = absurd f
  first_same p q (x ∷ xs) (inl (e, b)) (inl (d, c)) = sym e ∙ d
  first_same p q (x ∷ xs) (inl (e, b)) (inr (room, g)) = absurd (room b)
  first_same p q (x ∷ xs) (inr (room, f)) (inl (d, c)) = absurd (room c)
  first_same p q (x ∷ xs) (inr (room, f)) (inr (free, g)) = first_same p q xs f g

  refused_exactly : (a : TextDrawn) → ToldWhole a → IsRefusal (said_text a) ↔ IsSome
  refused_exactly (TextDrawn.Done t) (none, height, dropped) = (λ refusal. absurd (refusal refl), λ some. absurd (none some))
  refused_exactly (TextDrawn.Refused r) (number, first) = (λ refusal. first_some r.place spots first, λ some e. omega (arith, number, e))

  refused_where : (a : TextDrawn) → ToldWhole a → (n p : ℕ) → (said_text a ≡ refuses (refusal n p)) ↔ ((n ≡ 16) × FirstBeyond lay len s rec p spots)
  refused_where (TextDrawn.Done t) (none, height, dropped) n p = (
    λ e. let v = ap (λ (x : Said). length x.values) e in absurd (omega (arith, v)),
    λ (is, first). absurd (none (first_some p spots first)),
  )
  refused_where (TextDrawn.Refused r) (number, first) n p = (
    λ e. (
      sym (ap (λ (x : Said). x.number) e) ∙ number,
      subst (λ (k : ℕ). FirstBeyond lay len s rec k spots) (ap (λ (x : Said). x.place) e) first,
    ),
    λ (is, other).
        let same_number : r.number ≡ n = number ∙ sym is in
        let same_place = first_same r.place p spots first other in
        λ i. record { number = same_number i; place = same_place i; values = [] },
  )

  refused_leaves_lem : (a : TextDrawn) → ToldWhole a → IsSome → string_leaves s rec mode text lay colour a old ≡ old
  refused_leaves_lem (TextDrawn.Done t) (none, height, dropped) some = absurd (none some)
  refused_leaves_lem (TextDrawn.Refused r) told some = refl

  drawn_says : (a : TextDrawn) → ToldWhole a → (IsSome → ⊥)
      → said_text a ≡ says (pos (height s rec mode text lay colour old) ∷ pos (dropped_rows lay len spots) ∷ [])
  drawn_says (TextDrawn.Done t) (none, is-height, is-dropped) drawn =
      let all : t.dropped ≡ dropped_rows lay len spots = is-dropped ∙ omega arith in
      ap₂ (λ (h d : ℕ). says (pos h ∷ pos d ∷ [])) is-height all
  drawn_says (TextDrawn.Refused r) (number, first) drawn = absurd (drawn (first_some r.place spots first))

  -- ---- the pixels

  length_kept : (a : TextDrawn) → length (string_leaves s rec mode text lay colour a old) ≡ length old
  length_kept (TextDrawn.Done t) = length-painted (in_text s rec mode lay len (chars_of (decoded text)) origin) colour old
  length_kept (TextDrawn.Refused r) = refl

  abbrev pixel : TextDrawn → ℕ → ℕ
  pixel a i = get_or (string_leaves s rec mode text lay colour a old) i 0

  abbrev IsDefined : ℕ → Type 0
  IsDefined = Defined s rec mode text lay colour old

  -- a drawn text colours by its rule
  by_rule : (t : TextRows) (i : ℕ) → i < len → (b : Bool) → in_text s rec mode lay len (chars_of (decoded text)) origin i ≡ b
      → pixel (TextDrawn.Done t) i ≡ cond b colour (get_or old i 0)
  by_rule t i h b e =
      get_or-painted (in_text s rec mode lay len (chars_of (decoded text)) origin) colour old i h ∙ ap (λ (x : Bool). cond x colour (get_or old i 0)) e

  module _ (passed : vetted s ≡ Vetted.Passed rec) where
    pixel_coloured : (a : TextDrawn) → ToldWhole a → (IsSome → ⊥) → (i : ℕ) → i < len → IsDefined i → pixel a i ≡ colour
    pixel_coloured (TextDrawn.Done t) (none, height, dropped) drawn i h is =
        by_rule t i h true ((inked_text s rec lay len i passed mode (chars_of (decoded text)) origin none).1 is)
    pixel_coloured (TextDrawn.Refused r) (number, first) drawn i h is = absurd (drawn (first_some r.place spots first))

    pixel_kept : (a : TextDrawn) → ToldWhole a → (i : ℕ) → i < len → (IsDefined i → ⊥) → pixel a i ≡ get_or old i 0
    pixel_kept (TextDrawn.Done t) (none, height, dropped) i h is_none =
        split (in_text s rec mode lay len (chars_of (decoded text)) origin i)
        (λ e. absurd (is_none ((inked_text s rec lay len i passed mode (chars_of (decoded text)) origin none).0 e)))
        (by_rule t i h false)
    pixel_kept (TextDrawn.Refused r) told i h is_none = refl

    -- ---- a text that can be read, within the limits

    module _ (whole : checked_text text ≡ Checked.Whole) (start_high : lay.start ≤ 2147483647)
        (stride_low : 1 ≤ lay.stride)
        (stride_high : lay.stride ≤ 65535)
        (scale_low : 1 ≤ lay.scale)
        (scale_high : lay.scale ≤ 64)
      where
        -- nothing refuses before the first character
        answer_is : draw_string s rec mode text len lay ≡ text_from s rec mode lay len (chars_of (decoded text)) origin 0
        unfolding draw_string ready
        answer_is =
            let (loads, sound) = (passes_when s rec).0 passed in
            rw (
              loaded_serves true s rec loads,
              ok_place_lem lay.start lay.stride lay.scale start_high stride_low stride_high scale_low scale_high,
              whole,
              sound.bounds,
            ) refl

        pub shown_when_read : Shown s rec mode text lay colour old
        shown_when_read =
            let a = draw_string s rec mode text len lay in
            let told = subst ToldWhole (sym answer_is) (told_text s rec lay len passed mode (chars_of (decoded text)) origin 0) in
            record {
              refused_exactly = refused_exactly a told;
              refused_where = refused_where a told;
              refused_leaves_lem = refused_leaves_lem a told;
              drawn_says = drawn_says a told;
              pixel_coloured = pixel_coloured a told;
              pixel_kept = pixel_kept a told;
              length_kept = length_kept a;
              height_most = height_within text s rec mode lay;
            }

-- ---- with a font that passed

pub text_shown : (s : List ℕ) (rec : Record) (mode : Mode) (text : List ℕ) (lay : Layout) → Given s rec text lay → (colour : ℕ) (old : List ℕ) → Shown s rec mode text lay colour old
text_shown s rec mode text lay given colour old =
    shown_when_read s rec mode text lay colour old given.passed (well_whole text given.short given.well_formed)
    given.start_high given.stride_low given.stride_high given.scale_low given.scale_high

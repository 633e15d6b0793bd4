-- What it tells that a text passed the tests before its first character.
use Prim.Native.Nat.{ℕ, ◌*◌, ◌≤◌}
use mathlib.Core.Path.{◌≡◌, refl, sym, ap, ◌∙◌}
use mathlib.Core.Bool.{Bool, true, false, cond}
use mathlib.Core.List.{List}
use native.Mathlib.Omega.{arith}
use mir.Syntax.{w64}
use mir.Val.{Fits}
use lib.IntN.{nat_abs}
use lib.ListN.{length}
use Rattle.reads.specs.Said.{refusal}
use Rattle.reads.specs.declared.Refusal.{Refusal}
use Rattle.reads.proofs.Tests.{never}
use Rattle.tables.specs.Fits.{record_fits, guard, ladder}
use Rattle.tables.proofs.Guarded.{passes, guarded_answers, guarded_refuses}
use Rattle.tables.specs.declared.MetricsUnpacked.{MetricsUnpacked}
use Rattle.tables.specs.declared.Permit.{Permit}
use Rattle.tables.specs.declared.Record.{Record}
use Rattle.modes.specs.declared.Mode.{Mode}
use Rattle.bitmaps.specs.Paint.{painted}
use Rattle.bitmaps.specs.Place.{place_at}
use Rattle.bitmaps.specs.Limits.{ok_place}
use Rattle.outcome.proofs.Sizes.{within}
use Rattle.outcome.proofs.WithinLimits.{place_limits}
use Rattle.place.specs.Bounds.{height_of, bounds_hold, bounds_of, dimensions_of, bounds_sized}
use Rattle.place.specs.declared.Extent.{Extent}
use Rattle.place.specs.declared.Sized.{Sized}
use Rattle.place.proofs.Held.{held}
use Rattle.place.proofs.Whole.{in_range_small}
use Rattle.utf8.specs.Decode.{decoded, chars_of, checked_text}
use Rattle.utf8.specs.declared.Checked.{Checked}
use Rattle.utf8.proofs.CheckedText.{whole_walked}
use Rattle.utf8.proofs.Walk.{checked_whole}
use Rattle.text.specs.Walk.{origin, line_height}
use Rattle.text.specs.Text.{text_from, in_text, ready_text, ready, draw_string}
use Rattle.text.specs.Within.{Settled, Readable}
use Rattle.text.specs.Inked.{inked, Inkable}
use Rattle.text.specs.declared.Layout.{Layout}
use Rattle.text.specs.declared.Ready.{Ready}
use Rattle.text.specs.declared.TextDrawn.{TextDrawn}
use Rattle.text.specs.declared.TextRows.{TextRows}
use Rattle.text.proofs.Passes.{no_ink, all_ink}

not_line : (n line : ℕ) → Ready.Refused (refusal n 0) ≡ Ready.Line line → ⊥
not_line n line e = let z : ◌≡◌ {A = ℕ} 0 1 = cc in omega arith

-- a test before a line height, which is then passed
past : (t : Bool) (x : Ready) (n line : ℕ) → cond t x (Ready.Refused (refusal n 0)) ≡ Ready.Line line → (t ≡ true) × (x ≡ Ready.Line line)
past true x n line e = (refl, e)
past false x n line e = absurd (not_line n line e)

module _ (rec : Record) (lay : Layout) (line : ℕ) where
  past_text : (a : Checked) → ready_text rec lay a ≡ Ready.Line line
      → (a ≡ Checked.Whole) × (bounds_hold (bounds_of rec) ≡ true) × (line ≡ line_height rec lay.scale)
  past_text Checked.Whole e =
      let (b, l) = past (bounds_hold (bounds_of rec)) (Ready.Line (line_height rec lay.scale)) 11 line e in
      (refl, b, let q : line_height rec lay.scale ≡ line = cc in sym q)
  past_text (Checked.Refused r) e = let z : ◌≡◌ {A = ℕ} 0 1 = cc in absurd (omega arith)

  past_all : (s text : List ℕ) → ready s rec text lay ≡ Ready.Line line → Settled rec lay line × Readable text
  unfolding ready
  past_all s text e =
      let place = ok_place (place_at lay.start lay.stride lay.scale) in
      let after = ready_text rec lay (checked_text text) in
      let (fits, e₁) = past (record_fits (length s) rec) (cond place after (Ready.Refused (refusal 15 0))) 6 line e in
      let (ok, e₂) = past place after 15 line e₁ in
      let (is-text, holds, is-line) = past_text (checked_text text) e₂ in
      let (few, walked) = whole_walked text is-text in
      let limits = place_limits lay.start lay.stride lay.scale ok in
      let high = (in_range_small (height_of (bounds_of rec)) (held (bounds_of rec) holds).1).1 in (
        record {
          start_high = limits.0;
          stride_high = limits.2;
          scale_high = limits.4;
          line_is = is-line;
          line_high = omega (arith, is-line, within lay.scale 64 (nat_abs (height_of (bounds_of rec))) 32767 limits.4 high);
        },
        record { is_chars = checked_whole text walked; is_short = few },
      )

  module _ (s text : List ℕ) (r : Ready) (r-is : r ≡ ready s rec text lay) (e : r ≡ Ready.Line line) where
    pub is_settled : Settled rec lay line
    is_settled = (past_all s text (sym r-is ∙ e)).0

    pub is_readable : Readable text
    is_readable = (past_all s text (sym r-is ∙ e)).1

-- ---- the tests, one by one

-- what the bounds say
abbrev by_size : ℕ → Sized → Ready
by_size scale (Sized.Dimensions d) = Ready.Line (scale * d.height)
by_size scale (Sized.Refused r) = Ready.Refused r

by_size_lem : (t : Bool) (m : MetricsUnpacked) (scale : ℕ) → by_size scale (cond t (Sized.Dimensions (dimensions_of m)) (Sized.Refused (refusal 11 0)))
    ≡ cond t (Ready.Line (scale * nat_abs (height_of m))) (Ready.Refused (refusal 11 0))
by_size_lem true m scale = refl
by_size_lem false m scale = refl

sized_by : (m : MetricsUnpacked) (t : Bool) (d : Extent) → bounds_hold m ≡ t
    → cond t (Sized.Dimensions (dimensions_of m)) (Sized.Refused (refusal 11 0)) ≡ Sized.Dimensions d → d.height ≤ 32767
sized_by m true d h e =
    let q : dimensions_of m ≡ d = cc in
    let small = (in_range_small (height_of m) (held m h).1).1 in
    omega (arith, small, ap (λ (x : Extent). x.height) q)
sized_by m false d h e = let z : ◌≡◌ {A = ℕ} 0 1 = cc in absurd (omega arith)

-- a line's height fits
pub line_fits : (rec : Record) (lay : Layout) (d : Extent) (fits place : Bool) (permit : Permit) (size : Sized)
    → place ≡ ok_place (place_at lay.start lay.stride lay.scale) → permit ≡ ladder fits place → permit ≡ Permit.Given
    → size ≡ bounds_sized (bounds_of rec) → size ≡ Sized.Dimensions d → Fits w64 (lay.scale * d.height)
unfolding bounds_sized
line_fits rec lay d fits place permit size place_is permit-is given size_is e =
    let limits = place_limits lay.start lay.stride lay.scale (sym place_is ∙ (passes fits place (sym permit-is ∙ given)).1) in
    omega (arith, within lay.scale 64 d.height 32767 limits.4 (sized_by (bounds_of rec) (bounds_hold (bounds_of rec)) d refl (sym size_is ∙ e)))

module _ (s : List ℕ) (rec : Record) (mode : Mode) (text : List ℕ) (lay : Layout) (place : Bool) (permit : Permit)
    (place_is : place ≡ ok_place (place_at lay.start lay.stride lay.scale)) (permit-is : permit ≡ guard s rec place) where
  after : Ready
  after = ready_text rec lay (checked_text text)

  pub ready_refused : (r : Refusal) → permit ≡ Permit.Refused r → Ready.Refused r ≡ ready s rec text lay
  unfolding ready after
  ready_refused r e = rw (← place_is) (sym (guarded_refuses s rec place permit permit-is Ready.Refused after r e))

  module _ (given : permit ≡ Permit.Given) where
    ready_after : after ≡ ready s rec text lay
    unfolding ready after
    ready_after = rw (← place_is) (sym (guarded_answers s rec place permit permit-is Ready.Refused after given))

    module _ (whole : Checked) (whole_is : whole ≡ checked_text text) where
      ready_text_lem : ready_text rec lay whole ≡ ready s rec text lay
      unfolding after
      ready_text_lem = ap (ready_text rec lay) whole_is ∙ ready_after

      pub ready_19 : (r : Refusal) → whole ≡ Checked.Refused r → Ready.Refused r ≡ ready s rec text lay
      ready_19 r e = rw e at ready_text_lem

      -- of a text that can be drawn
      module _ (size : Sized) (e : whole ≡ Checked.Whole) (size_is : size ≡ bounds_sized (bounds_of rec)) where
        ready_bounds : by_size lay.scale size ≡ ready s rec text lay
        unfolding bounds_sized
        ready_bounds =
            ap (by_size lay.scale) size_is
            ∙ by_size_lem (bounds_hold (bounds_of rec)) (bounds_of rec) lay.scale
            ∙ ap (ready_text rec lay) (sym e)
            ∙ ready_text_lem

        pub ready_sized : (d : Extent) (line : ℕ) → size ≡ Sized.Dimensions d → line ≡ lay.scale * d.height → Ready.Line line ≡ ready s rec text lay
        ready_sized d line h is = rw is (rw h at ready_bounds)

        pub ready_11 : (r : Refusal) → size ≡ Sized.Refused r → Ready.Refused r ≡ ready s rec text lay
        ready_11 r h = rw h at ready_bounds

-- ---- the whole call

module _ (s : List ℕ) (rec : Record) (mode : Mode) (text : List ℕ) (lay : Layout) (len : ℕ) (tests : Ready) (tests-are : tests ≡ ready s rec text lay) where
  pub string_refused : (r : Refusal) → tests ≡ Ready.Refused r → TextDrawn.Refused r ≡ draw_string s rec mode text len lay
  unfolding draw_string
  string_refused r e = rw (← tests-are, e)

  module _ (line : ℕ) (answer : TextDrawn) (e : tests ≡ Ready.Line line) (answer_is : answer ≡ text_from s rec mode lay len (chars_of (decoded text)) origin 0) where
    pub string_answered : answer ≡ draw_string s rec mode text len lay
    unfolding draw_string
    string_answered = rw (← tests-are, e) answer_is

    pub string_answers : (r : TextDrawn) → answer ≡ r → r ≡ draw_string s rec mode text len lay
    string_answers r h = sym h ∙ string_answered

-- what the two passes leave, the first without ink and the second with it

module _ (s : List ℕ) (rec : Record) (mode : Mode) (text : List ℕ) (lay : Layout) (len colour : ℕ) (old dry : List ℕ)
    (dry-is : dry ≡ painted (inked false (in_text s rec mode lay len (chars_of (decoded text)) origin)) colour old) where
  abbrev rule : ℕ → Bool
  rule = in_text s rec mode lay len (chars_of (decoded text)) origin

  pub dry_left : dry ≡ old
  dry_left = dry-is ∙ no_ink rule colour old

  pub pass_left : (new : List ℕ) → new ≡ painted (inked true (in_text s rec mode lay len (chars_of (decoded text)) origin)) colour dry → len ≡ length old
      → new ≡ painted (in_text s rec mode lay (length old) (chars_of (decoded text)) origin) colour old
  pass_left new is same = rw (← same) (is ∙ all_ink rule colour dry ∙ ap (painted rule colour) dry_left)

  pub inkable : (answer : TextDrawn) (rows : TextRows) → answer ≡ text_from s rec mode lay len (chars_of (decoded text)) origin 0 → answer ≡ TextDrawn.Done rows
      → len ≡ length old → Inkable true s rec mode lay len text (length dry)
  inkable answer rows answer_is e same = record { lent = record { same = λ t. same ∙ ap length (sym dry_left) }; done = λ t. (rows, sym answer_is ∙ e) }

-- a pass without ink asks nothing of its buffer
pub no_ink_asked : (s : List ℕ) (rec : Record) (mode : Mode) (lay : Layout) (len : ℕ) (text : List ℕ) (pixels : ℕ) → Inkable false s rec mode lay len text pixels
no_ink_asked s rec mode lay len text pixels = record { lent = record { same = λ e. never e }; done = λ e. never e }

-- The tests of a drawing and of an unpacking in their order, 13, 14, 16: what each return answers, and what is known at the last ones.
use Prim.Native.Nat.{ℕ, ◌+◌, ◌*◌, ◌≤◌, ◌<◌}
use mathlib.Core.Path.{◌≡◌, refl, sym, ◌∙◌}
use mathlib.Core.Bool.{Bool, true, false, ◌||◌}
use mathlib.Core.List.{List}
use mathlib.Core.Logic.{⊎_elim}
use native.Mathlib.Omega.{arith}
use native.Mathlib.Nat.{le_refl}
use lib.Dec.{eqb, leb}
use lib.ListN.{length, get_or}
use mir.Val.{Fits}
use mir.Syntax.{w8}
use borrow.Author.Tests.{eqb-true}
use Rattle.reads.specs.Num.{Octets}
use Rattle.reads.specs.Said.{refusal}
use Rattle.reads.proofs.Tests.{or_cases}
use Rattle.tables.specs.declared.BitmapData.{BitmapData}
use Rattle.bitmaps.specs.Place.{Place, place_at}
use Rattle.bitmaps.specs.Paint.{painted}
use Rattle.bitmaps.specs.Units.{order_of}
use Rattle.bitmaps.specs.Rows.{row_bytes, row_stride, bytes_past}
use Rattle.bitmaps.specs.Cut.{drawn_rows}
use Rattle.bitmaps.specs.Ink.{rows_past, every_bit, row_start, row_bits}
use Rattle.bitmaps.specs.Picture.{unreadable, bits_of, offset_of, rows_short, glyph_bit, in_picture, pixel_past}
use Rattle.bitmaps.specs.Draw.{rows_of, shown_at}
use Rattle.bitmaps.specs.Unpack.{whole_columns, unscaled, unpacked_at}
use Rattle.bitmaps.specs.declared.Order.{Order}
use Rattle.bitmaps.specs.declared.Drawn.{Drawn}
use Rattle.bitmaps.specs.declared.Unpacked.{Unpacked}
use Rattle.bitmaps.proofs.RowsInside.{inside_rows}
use Rattle.bitmaps.proofs.NoDots.{none_found, no_dots}
use Rattle.bitmaps.proofs.LastByte.{glyph_short}
use Rattle.bitmaps.proofs.LentRows.{Found, past_in_file}
use Rattle.outcome.proofs.Corner.{corner_free}

-- lent bytes are bytes
pub octets : (s : List ℕ) → ((i : ℕ) → Fits w8 (get_or s i 0)) → Octets s
octets s fits = record { below = λ i. (fits i).fits }

-- ---- what the steps tell of 14 and 16

-- without a row or a column
nothing_there : {P : Type 0} (n width r c : ℕ) → eqb n 0 || eqb width 0 ≡ true → r < n → c < width → P
nothing_there n width r c e h l =
    ⊎_elim (λ t. absurd (omega (arith, eqb-true n 0 t))) (λ t. absurd (omega (arith, eqb-true width 0 t))) (or_cases (eqb n 0) (eqb width 0) e)

-- the columns of a row are columns of its whole bytes
pub own_columns : (width : ℕ) → width ≤ whole_columns width
own_columns width = omega arith

module _ (s : List ℕ) (b : BitmapData) (g width columns n : ℕ) (at : Place) (whole : columns ≤ whole_columns width) (e : eqb n 0 || eqb width 0 ≡ true) where
  no_dot : (r c a : ℕ) → r < n → c < columns → a < at.scale → ⊥
  no_dot r c a h l m = nothing_there n width r 0 e h (omega arith)

  none_past : (len : ℕ) → pixel_past s b g width columns at n len ≡ false
  none_past len = none_found (glyph_bit s b g width) at columns n no_dot (λ j. leb len j)

  pub nothing_coloured : (colour : ℕ) (old : List ℕ) → old ≡ painted (in_picture s b g width columns at n) colour old
  nothing_coloured colour old = no_dots (glyph_bit s b g width) at columns n colour old no_dot

module _ (s : List ℕ) (b : BitmapData) (g width n : ℕ) where
  none_short : eqb n 0 || eqb width 0 ≡ true → rows_short s b g width n ≡ false
  none_short e = inside_rows s b g width n (λ r c h l. nothing_there n width r c e h l)

  -- where the corner fits, 16 does not refuse
  pub room_fitting : (p stride scale columns len : ℕ) (corner : Bool) → corner ≡ rows_past every_bit (place_at p stride scale) columns n len → corner ≡ false
      → pixel_past s b g width columns (place_at p stride scale) n len ≡ false
  unfolding rows_past
  room_fitting p stride scale columns len corner is none = corner_free (glyph_bit s b g width) p stride scale columns n len corner is none

-- nothing refuses: what is answered, where the rows stand, and that no set bit of theirs has a pixel past the buffer
pub record Passed (Answer : Type 0) (s : List ℕ) (b : BitmapData) (g width columns n first step : ℕ) (at : Place) (len : ℕ) : Type 0 where
  pub answer : Answer
  pub found : Found s b g width n first step
  pub room : pixel_past s b g width columns at n len ≡ false

-- ---- a drawing

module _ (s : List ℕ) (b : BitmapData) (g width height len p stride scale : ℕ) (unread : Bool) (unread-is : unread ≡ unreadable b) where
  abbrev at : Place
  at = place_at p stride scale

  pub shown_13 : unread ≡ true → Drawn.Refused (refusal 13 0) ≡ shown_at s b g width height len (place_at p stride scale)
  unfolding shown_at
  shown_13 e = rw (← unread-is, e) refl

  module _ (readable : unread ≡ false) (n : ℕ) (n-is : n ≡ drawn_rows len (place_at p stride scale) height) where
    pub shown_drawn : rows_short s b g width n ≡ false → pixel_past s b g width width (place_at p stride scale) n len ≡ false
        → Drawn.Rows (rows_of height n) ≡ shown_at s b g width height len (place_at p stride scale)
    unfolding shown_at
    shown_drawn there room = rw (← unread-is, readable, ← n-is, there, room) refl

    pub shown_nothing : eqb n 0 || eqb width 0 ≡ true → Drawn.Rows (rows_of height n) ≡ shown_at s b g width height len (place_at p stride scale)
    shown_nothing e = shown_drawn (none_short s b g width n e) (none_past s b g width width n at (own_columns width) e len)

    module _ (first step : ℕ) (short : Bool) (first_is : first ≡ offset_of s b g)
        (step_is : step ≡ row_stride width b.pad) (short-is : short ≡ bytes_past (length (bits_of s b)) (order_of b) (row_start first step) width n) where
      short_of : short ≡ rows_short s b g width n
      short_of = glyph_short s b g width n first step short first_is step_is short-is

      pub shown_14 : short ≡ true → Drawn.Refused (refusal 14 0) ≡ shown_at s b g width height len (place_at p stride scale)
      unfolding shown_at
      shown_14 e = rw (← unread-is, readable, ← n-is, ← short_of, e) refl

    abbrev Drawing : ℕ → ℕ → Type 0
    Drawing first step = Passed (Drawn.Rows (rows_of height n) ≡ shown_at s b g width height len at) s b g width width n first step at len

    pub shown_fitting : (corner : Bool) → corner ≡ rows_past every_bit (place_at p stride scale) width n len → corner ≡ false → rows_short s b g width n ≡ false
        → Drawn.Rows (rows_of height n) ≡ shown_at s b g width height len (place_at p stride scale)
    shown_fitting corner is none there = shown_drawn there (room_fitting s b g width n p stride scale width len corner is none)

    pub drawing_fits : (first step : ℕ) (corner : Bool) → corner ≡ rows_past every_bit (place_at p stride scale) width n len → corner ≡ false
        → Found s b g width n first step → Drawing first step
    drawing_fits first step corner is none found = record {
      answer = shown_fitting corner is none found.there;
      found = found;
      room = room_fitting s b g width n p stride scale width len corner is none;
    }

    module _ (o : Order) (first step : ℕ) (past : Bool) (past_is : past ≡ rows_past (row_bits s o (b.bits + first) step) (place_at p stride scale) width n len)
        (o_is : o ≡ order_of b) (bytes : Octets s) (found : Found s b g width n first step) where
      past_of : past ≡ pixel_past s b g width width at n len
      past_of = past_in_file s b g width n first step found o o_is width p stride scale (omega arith) bytes len past past_is

      pub shown_16 : past ≡ true → Drawn.Refused (refusal 16 0) ≡ shown_at s b g width height len (place_at p stride scale)
      unfolding shown_at
      shown_16 e = rw (← unread-is, readable, ← n-is, found.there, ← past_of, e) refl

      pub shown_searched : past ≡ false → Drawn.Rows (rows_of height n) ≡ shown_at s b g width height len (place_at p stride scale)
      shown_searched e = shown_drawn found.there (sym past_of ∙ e)

      pub drawing_searched : past ≡ false → Drawing first step
      drawing_searched e = record { answer = shown_searched e; found = found; room = sym past_of ∙ e }

-- ---- an unpacking

module _ (s : List ℕ) (b : BitmapData) (g width height len p stride : ℕ) (unread : Bool) (unread-is : unread ≡ unreadable b) where
  pub unpacked_13 : unread ≡ true → Unpacked.Refused (refusal 13 0) ≡ unpacked_at s b g width height len p stride
  unfolding unpacked_at
  unpacked_13 e = rw (← unread-is, e) refl

  module _ (readable : unread ≡ false) where
    pub unpacked_all : rows_short s b g width height ≡ false → pixel_past s b g width (whole_columns width) (unscaled p stride) height len ≡ false
        → Unpacked.Rows height ≡ unpacked_at s b g width height len p stride
    unfolding unpacked_at
    unpacked_all there room = rw (← unread-is, readable, there, room) refl

    pub unpacked_nothing : eqb height 0 || eqb width 0 ≡ true → Unpacked.Rows height ≡ unpacked_at s b g width height len p stride
    unpacked_nothing e =
        unpacked_all (none_short s b g width height e) (none_past s b g width (whole_columns width) height (unscaled p stride) (le_refl _) e len)

    module _ (first step : ℕ) (short : Bool) (first_is : first ≡ offset_of s b g)
        (step_is : step ≡ row_stride width b.pad) (short-is : short ≡ bytes_past (length (bits_of s b)) (order_of b) (row_start first step) width height) where
      short_all : short ≡ rows_short s b g width height
      short_all = glyph_short s b g width height first step short first_is step_is short-is

      pub unpacked_14 : short ≡ true → Unpacked.Refused (refusal 14 0) ≡ unpacked_at s b g width height len p stride
      unfolding unpacked_at
      unpacked_14 e = rw (← unread-is, readable, ← short_all, e) refl

    abbrev Unpacking : ℕ → ℕ → Type 0
    Unpacking first step =
        Passed (Unpacked.Rows height ≡ unpacked_at s b g width height len p stride) s b g width (whole_columns width) height first step (unscaled p stride) len

    module _ (bytes : ℕ) (bytes-is : bytes ≡ row_bytes width) where
      pub unpacked_fitting : (corner : Bool) → corner ≡ rows_past every_bit (place_at p stride 1) (8 * bytes) height len → corner ≡ false
          → rows_short s b g width height ≡ false → Unpacked.Rows height ≡ unpacked_at s b g width height len p stride
      unpacked_fitting corner is none there =
          unpacked_all there (room_fitting s b g width height p stride 1 (whole_columns width) len corner (rw bytes-is at is) none)

      pub unpacking_fits : (first step : ℕ) (corner : Bool) → corner ≡ rows_past every_bit (place_at p stride 1) (8 * bytes) height len → corner ≡ false
          → Found s b g width height first step → Unpacking first step
      unpacking_fits first step corner is none found = record {
        answer = unpacked_fitting corner is none found.there;
        found = found;
        room = room_fitting s b g width height p stride 1 (whole_columns width) len corner (rw bytes-is at is) none;
      }

      module _ (o : Order) (first step : ℕ) (past : Bool) (past_is : past ≡ rows_past (row_bits s o (b.bits + first) step) (place_at p stride 1) (8 * bytes) height len)
          (o_is : o ≡ order_of b) (octets : Octets s) (found : Found s b g width height first step) where
        past_all : past ≡ pixel_past s b g width (whole_columns width) (unscaled p stride) height len
        past_all =
            past_in_file s b g width height first step found o o_is (whole_columns width) p stride 1 (omega arith) octets len past (rw bytes-is at past_is)

        pub unpacked_16 : past ≡ true → Unpacked.Refused (refusal 16 0) ≡ unpacked_at s b g width height len p stride
        unfolding unpacked_at
        unpacked_16 e = rw (← unread-is, readable, found.there, ← past_all, e) refl

        pub unpacked_searched : past ≡ false → Unpacked.Rows height ≡ unpacked_at s b g width height len p stride
        unpacked_searched e = unpacked_all found.there (sym past_all ∙ e)

        pub unpacking_searched : past ≡ false → Unpacking first step
        unpacking_searched e = record { answer = unpacked_searched e; found = found; room = sym past_all ∙ e }

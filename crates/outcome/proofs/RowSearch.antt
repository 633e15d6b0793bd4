-- The search for a pixel past the room: in a row column by column, and in a glyph row by row.
use Prim.Native.Nat.{ℕ, ◌+◌, ◌-◌, ◌*◌, ◌/◌, ◌%◌, ◌≤◌, ◌<◌}
use mathlib.Core.Path.{◌≡◌, refl, sym, ◌∙◌}
use mathlib.Core.Bool.{Bool, true, false, ◌&&◌}
use mathlib.Core.List.{List}
use native.Mathlib.Nat.{zero-add}
use native.Mathlib.Omega.{arith}
use lib.Dec.{leb, ltb}
use mir.Syntax.{w64}
use mir.Val.{Fits}
use Rattle.reads.specs.Num.{byte_at, Octets}
use Rattle.bitmaps.specs.Place.{Place, place_at, row_place, column_place}
use Rattle.bitmaps.specs.Paint.{some}
use Rattle.bitmaps.specs.Units.{bit_at, byte_of, shown_byte}
use Rattle.bitmaps.specs.Rows.{column}
use Rattle.bitmaps.specs.Dots.{block_dot, row_dot, some_dot}
use Rattle.bitmaps.specs.Ink.{row_past, rows_past, row_start, row_bits}
use Rattle.bitmaps.specs.declared.Order.{Order}
use Rattle.bitmaps.proofs.Searching.{some_true, some_next}
use Rattle.bitmaps.proofs.RowEnds.{held_below}
use Rattle.bitmaps.proofs.ShownBytes.{bit_by_byte, held_shown}
use Rattle.outcome.proofs.Corner.{block_past, by_room}

-- ---- a bit

module _ (o : Order) (row c held : ℕ) (held-is : held ≡ byte_of o (8 * (c / 8))) where
  pub byte_near : row ≤ 1152921504606846976 → c ≤ 1152921504606846976 → Fits w64 (row + held)
  byte_near h l = omega (arith, held-is, held_below o (c / 8))

  pub bit_read : (s : List ℕ) (first byte shown : ℕ) (bit : Bool) → Octets s → byte ≡ byte_at s (first + (row + held)) → shown ≡ shown_byte o byte
      → bit ≡ column shown (c % 8) → bit ≡ bit_at s o (first + row) c
  bit_read s first byte shown bit bytes byte_is shown-is is =
      let there : first + (row + held) ≡ first + row + byte_of o (8 * (c / 8)) = omega (arith, held-is) in
      rw (shown-is, byte_is, there, ← held_shown s o (first + row) (c / 8) bytes) at is ∙ sym (bit_by_byte s o (first + row) c)

-- ---- a row

-- no pixel of a set bit of the row's first c columns lies past the room
pub record RowClear (bit : ℕ → Bool) (at : Place) (columns room c : ℕ) : Type 0 where
  pub inside : c ≤ columns
  pub none : row_past bit at c room ≡ false

module _ (bit : ℕ → Bool) (at : Place) (columns room : ℕ) where
  pub row_clear_first : RowClear bit at columns room 0
  unfolding row_past row_dot some
  row_clear_first = record { inside = omega arith; none = refl }

  module _ (c : ℕ) (clear : RowClear bit at columns room c) where
    pub row_clear_all : columns ≤ c → false ≡ row_past bit at columns room
    row_clear_all h = let e : c ≡ columns = omega (arith, clear.inside) in sym (rw e at clear.none)

    -- b is the bit of column c, whose block passes the room where its last pixel does
    module _ (below : c < columns) (low : 1 ≤ at.scale) (b : Bool) where
      abbrev passing : ℕ → Bool
      passing k = bit k && block_dot (column_place at k) (λ j. leb room j)

      abbrev last_passes : Bool
      last_passes = b && ltb room (at.p + c * at.scale + (at.scale - 1) * at.stride + at.scale)

      by_last : b ≡ bit c → last_passes ≡ passing c
      by_last b-is = rw (b-is, block_past (column_place at c) room low) refl

      pub column_past : last_passes ≡ true → b ≡ bit c → true ≡ row_past bit at columns room
      unfolding row_past row_dot
      column_past e b-is = sym (some_true columns passing c below (sym (by_last b-is) ∙ e))

      pub row_clear_next : last_passes ≡ false → b ≡ bit c → RowClear bit at columns room (c + 1)
      unfolding row_past row_dot
      row_clear_next e b-is = record { inside = omega arith; none = some_next c passing clear.none (sym (by_last b-is) ∙ e) }

-- ---- a glyph

-- no set bit of the first r rows has a pixel past the room
pub record Clear (s : List ℕ) (o : Order) (first step columns n room stride scale r : ℕ) : Type 0 where
  pub inside : r ≤ n
  pub none : rows_past (row_bits s o first step) (place_at 0 stride scale) columns r room ≡ false

module _ (s : List ℕ) (o : Order) (first step columns n room stride scale : ℕ) where
  pub clear_first : Clear s o first step columns n room stride scale 0
  unfolding rows_past some_dot some
  clear_first = record { inside = omega arith; none = refl }

  module _ (r : ℕ) (clear : Clear s o first step columns n room stride scale r) where
    abbrev row : ℕ → Bool
    row k = row_dot (row_bits s o first step k) (row_place (place_at 0 stride scale) k) columns (λ j. leb room j)

    row_is : (past : Bool) → past ≡ row_past (bit_at s o (first + r * step)) (place_at (r * stride * scale) stride scale) columns room → row r ≡ past
    unfolding row_past row_bits row_start
    row_is past is = rw (zero-add (r * stride * scale)) (sym is)

    pub clear_next : (past : Bool) → r < n → past ≡ false
        → past ≡ row_past (bit_at s o (first + r * step)) (place_at (r * stride * scale) stride scale) columns room
        → Clear s o first step columns n room stride scale (r + 1)
    unfolding rows_past some_dot
    clear_next past h e is = record { inside = omega arith; none = some_next r row clear.none (row_is past is ∙ e) }

    -- what is found in the room from p on is found in the buffer
    module _ (len p : ℕ) (room-is : room ≡ len - p) where
      pub row_found : (past : Bool) → r < n → past ≡ true
          → past ≡ row_past (bit_at s o (first + r * step)) (place_at (r * stride * scale) stride scale) columns room
          → true ≡ rows_past (row_bits s o first step) (place_at p stride scale) columns n len
      unfolding rows_past some_dot
      row_found past h e is = by_room (row_bits s o first step) p stride scale columns n len room true room-is (sym (some_true n row r h (row_is past is ∙ e)))

      pub clear_all : n ≤ r → false ≡ rows_past (row_bits s o first step) (place_at p stride scale) columns n len
      clear_all h =
          let e : r ≡ n = omega (arith, clear.inside) in
          by_room (row_bits s o first step) p stride scale columns n len room false room-is (sym (rw e at clear.none))

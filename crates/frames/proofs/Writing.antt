-- Writers turn by turn: what was stored so far and what one call more stored, and that there was room for it.
use Prim.Native.Nat.{ℕ, ◌+◌, ◌*◌, ◌≤◌, ◌<◌}
use mathlib.Core.Path.{◌≡◌, refl, sym, ◌∙◌}
use mathlib.Core.List.{List, [], ◌∷◌}
use native.Mathlib.Omega.{arith}
use lib.ListN.{length, take, get_or}
use lib.Seq.{sets, sets-eq, take_all, length-take-le}
use borrow.Rule.Slice.PartMut.{put_mid}
use Rattle.std.proofs.lemmas.Slice.{put_mid-paste}
use Rattle.tables.specs.declared.BitmapData.{BitmapData}
use Rattle.bitmaps.specs.Units.{order_of, row_byte}
use Rattle.bitmaps.specs.Rows.{row_bytes, row_stride}
use Rattle.bitmaps.specs.Picture.{bits_of, offset_of}
use Rattle.bitmaps.specs.declared.Order.{Order}
use Rattle.place.specs.declared.GlyphInfo.{GlyphInfo}
use Rattle.frames.specs.Hex.{hex_byte, hex_all, field}
use Rattle.frames.specs.Frames.{row_from, rows_from, glyph_rows}
use Rattle.frames.specs.Wrote.{Wrote}
use denote.MutBor.{MutBor}
use Rattle.frames.proofs.Chain.{then}
use Rattle.frames.proofs.HexRuns.{length-hex, hex_next, hex_snoc, field_none, field_some}
use Rattle.frames.proofs.RowRuns.{length_row, row_next, length_rows, rows_next, row_room}

-- ---- text

-- bytes copied into a part of a buffer are stored one after the other
pub text_stored : (old part src : List ℕ) (at k : ℕ) → part ≡ src → k ≡ length src → at + length src ≤ length old → put_mid at k old part ≡ sets old at src
text_stored old part src at k e f h = rw (put_mid-paste at k old part src (length src) e (sym f) refl, take_all (length src) src (omega arith)) (sym (sets-eq src old at h))

-- ---- the digits of some bytes

module _ (src : List ℕ) (i : ℕ) (l m : MutBor (List ℕ)) (at n : ℕ) (p : Wrote l at (hex_all (take i src)) m n) (h : i < length src) where
  pub bytes_room : at + 2 * length src ≤ length l.now → n + 2 ≤ length m.now
  bytes_room room = omega (arith, p.put.up_to, p.put.same, length-hex (take i src), length-take-le i src (omega arith))

  pub bytes_turn : (new : MutBor (List ℕ)) (next : ℕ) → Wrote m n (hex_byte (get_or src i 0)) new next → Wrote l at (hex_all (take (i + 1) src)) new next
  bytes_turn new next q = rw (hex_next src i h) (then p q)

-- ---- the first bytes of a row

module _ (bits : List ℕ) (o : Order) (row j : ℕ) (l m : MutBor (List ℕ)) (at n : ℕ) (p : Wrote l at (hex_all (row_from bits o row 0 j)) m n) where
  pub row_space : (count : ℕ) → j < count → at + 2 * count ≤ length l.now → n + 2 ≤ length m.now
  row_space count h room = omega (arith, p.put.up_to, p.put.same, length-hex (row_from bits o row 0 j), length_row bits o row 0 j)

  pub row_turn : (byte : ℕ) (new : MutBor (List ℕ)) (next : ℕ) → byte ≡ row_byte bits o row j → Wrote m n (hex_byte byte) new next
      → Wrote l at (hex_all (row_from bits o row 0 (j + 1))) new next
  row_turn byte new next is q =
      rw (row_next bits o row j, hex_snoc (row_from bits o row 0 j) (row_byte bits o row j), ← is) (then p q)

-- ---- the rows of a glyph

module _ (s : List ℕ) (b : BitmapData) (i : GlyphInfo) (k : ℕ) (l m : MutBor (List ℕ)) (at n : ℕ) (p : Wrote l at (hex_all (rows_from s b i 0 k)) m n) where
  pub rows_space : (count : ℕ) → count ≡ row_bytes i.width → k < i.height
      → at + 2 * (i.height * row_bytes i.width) ≤ length l.now → n + 2 * count ≤ length m.now
  rows_space count is h room =
      omega (
        arith,
        p.put.up_to,
        p.put.same,
        length-hex (rows_from s b i 0 k),
        length_rows s b i 0 k,
        row_room k i.height (row_bytes i.width) h,
      )

  pub rows_turn : (first stride count : ℕ) (new : MutBor (List ℕ)) (next : ℕ) → count ≡ row_bytes i.width → stride ≡ row_stride i.width b.pad → first ≡ offset_of s b i.glyph.0
      → Wrote m n (hex_all (row_from (bits_of s b) (order_of b) (first + k * stride) 0 count)) new next
      → Wrote l at (hex_all (rows_from s b i 0 (k + 1))) new next
  rows_turn first stride count new next count-is stride-is first_is q =
      rw (rows_next s b i k, ← first_is, ← stride-is, ← count-is) (then p q)

-- their field is a dash where they have no byte
module _ (s : List ℕ) (b : BitmapData) (i : GlyphInfo) (size : ℕ) (size_is : size ≡ i.height * row_bytes i.width) where
  as_long : size ≡ length (glyph_rows s b i)
  as_long = size_is ∙ sym (length_rows s b i 0 i.height)

  pub picture_dash : size ≡ 0 → field (glyph_rows s b i) ≡ 45 ∷ []
  picture_dash e = field_none (glyph_rows s b i) (sym as_long ∙ e)

  pub picture_digits : (size ≡ 0 → ⊥) → field (glyph_rows s b i) ≡ hex_all (glyph_rows s b i)
  picture_digits e = field_some (glyph_rows s b i) (λ z. e (as_long ∙ z))

pub ruleset picture = (picture_dash, picture_digits)

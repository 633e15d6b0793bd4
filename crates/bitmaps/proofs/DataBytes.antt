-- The bitmap data as a part of the font's bytes: how many bytes it has, and which they are.
use mathlib.Core.Path.{◌≡◌, refl, sym, ap, ◌∙◌}
use mathlib.Core.List.{List}
use Prim.Native.Nat.{ℕ, ◌+◌, ◌-◌, ◌≤◌, ◌<◌, ◌^◌, min}
use native.Mathlib.Omega.{arith}
use lib.Dec.{ltb}
use lib.ListN.{length, take, drop, get_or, length-take, length-drop, get_or-eq_default}
use lib.Seq.{get_or-take, get_or-drop}
use mir.Syntax.{w64}
use mir.Val.{Fits}
use borrow.Author.Tests.{ltb-true, ltb-false}
use Rattle.reads.specs.Num.{byte_at, Octets}
use Rattle.reads.proofs.Tests.{split}
use Rattle.tables.specs.declared.BitmapData.{BitmapData}
use Rattle.bitmaps.specs.Units.{order_of, row_byte}
use Rattle.bitmaps.specs.declared.Order.{Order}
use Rattle.bitmaps.specs.Picture.{bits_of}
use Rattle.bitmaps.proofs.ShownBytes.{same_bytes, no_bytes}

-- a part of bytes is bytes
pub part_octets : (s : List ℕ) (from n : ℕ) → Octets s → Octets (take n (drop from s))
part_octets s from n bytes = record {
  below =
      λ i.
      split (ltb i n)
      (λ t. rw (get_or-take n (drop from s) i 0 (ltb-true i n t) ∙ get_or-drop from s i 0) (bytes.below (from + i)))
      (λ t. let past = ltb-false i n t in rw (get_or-eq_default (take n (drop from s)) 0 {n = i} (omega (arith, length-take n (drop from s)))) (omega arith));
}

module _ (s : List ℕ) (b : BitmapData) where
  pub data_length : length (bits_of s b) ≡ min b.size (length s - b.bits)
  data_length = rw (length-take b.size (drop b.bits s), length-drop b.bits s) refl

  -- it begins behind the file, is cut by the file's end, or is whole

  pub behind_the_file : length s < b.bits → 0 ≡ length (bits_of s b)
  behind_the_file h = omega (arith, data_length)

  pub cut_by_the_file : length s - b.bits < b.size → length s - b.bits ≡ length (bits_of s b)
  cut_by_the_file h = omega (arith, data_length)

  pub in_the_file : b.size ≤ length s - b.bits → b.size ≡ length (bits_of s b)
  in_the_file h = omega (arith, data_length)

  pub data_byte : (k : ℕ) → k < b.size → byte_at (bits_of s b) k ≡ byte_at s (b.bits + k)
  data_byte k h = get_or-take b.size (drop b.bits s) k 0 h ∙ get_or-drop b.bits s k 0

  pub data_octets : Octets s → Octets (bits_of s b)
  data_octets bytes = part_octets s b.bits b.size bytes

-- from a row's start to the data's end, the data's bytes are the file's

module _ (s : List ℕ) (b : BitmapData) (row size : ℕ) (size_is : size ≡ length (bits_of s b)) where
  past_bits : (i : ℕ) → size ≤ row + i → 0 ≡ byte_at (bits_of s b) (row + i)
  past_bits i h = sym (get_or-eq_default (bits_of s b) 0 (omega (arith, size_is)))

  pub row_past_data : (o : Order) (j : ℕ) → size ≤ row → 0 ≡ row_byte (bits_of s b) o row j
  row_past_data o j h = sym (no_bytes (bits_of s b) o row j (λ i. sym (past_bits i (omega arith))))

  module _ (starts : row < size) where
    pub data_in_file : b.bits + size ≤ length s
    data_in_file = omega (arith, size_is, data_length s b)

    pub from_fits : length s < 2 ^ 64 → Fits w64 (b.bits + row)
    from_fits h = omega (arith, data_in_file)

    pub end_fits : length s < 2 ^ 64 → Fits w64 (b.bits + size)
    end_fits h = omega (arith, data_in_file)

    abbrev part : List ℕ
    part = take (b.bits + size - (b.bits + row)) (drop (b.bits + row) s)

    from_byte : (i : ℕ) → byte_at part (0 + i) ≡ byte_at (bits_of s b) (row + i)
    from_byte i =
        let left = b.bits + size - (b.bits + row) in
        split (ltb i left)
        (λ t.
        let near = ltb-true i left t in
        let here : b.bits + row + (0 + i) ≡ b.bits + (row + i) = omega arith in
        get_or-take left (drop (b.bits + row) s) (0 + i) 0 (omega arith) ∙ get_or-drop (b.bits + row) s (0 + i) 0
        ∙ ap (λ (k : ℕ). get_or s k 0) here ∙ sym (data_byte s b (row + i) (omega (arith, size_is, data_length s b))))
        (λ t.
        let far = ltb-false i left t in
        let none : length part ≤ 0 + i = omega (arith, length-take left (drop (b.bits + row) s)) in
        get_or-eq_default part 0 none ∙ past_bits i (omega arith))

    pub from_row : (o : Order) (j r : ℕ) → o ≡ order_of b → r ≡ row_byte part o 0 j → r ≡ row_byte (bits_of s b) (order_of b) row j
    from_row o j r order_is is = is ∙ same_bytes part (bits_of s b) o 0 row j from_byte ∙ ap (λ (o : Order). row_byte (bits_of s b) o row j) order_is

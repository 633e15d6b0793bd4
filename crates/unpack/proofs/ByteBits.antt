-- A byte's set bits, stored from one to the next: with the first one stored, the set bits behind it are left.
use Prim.Native.Nat.{ℕ, ◌+◌, ◌-◌, ◌/◌, ◌^◌, ◌<◌}
use mathlib.Core.Path.{◌≡◌, refl, sym, ap, ◌∙◌}
use mathlib.Core.Bool.{Bool, false, ◌&&◌, ◌||◌}
use mathlib.Core.List.{List}
use native.Mathlib.Nat.{add-zero}
use native.Mathlib.Omega.{arith}
use lib.Count.{count_leading_zeros}
use lib.Dec.{eqb, leb}
use lib.ListN.{length, set}
use mir.Syntax.{w64}
use mir.Val.{Fits}
use borrow.Author.Tests.{leb-false}
use Rattle.reads.proofs.Tests.{or_neither}
use Rattle.bitmaps.specs.Paint.{some, painted}
use Rattle.bitmaps.specs.Rows.{column}
use Rattle.bitmaps.proofs.Painting.{length-painted, set_painted, painted_none, painted_same, painted_or}
use Rattle.bitmaps.proofs.SetBits.{first_bit, run_or_behind, without_bit}
use Rattle.unpack.specs.Stored.{in_bits, bits_past}

-- what is found among a byte's set bits is found at the first one or behind it
set_or_behind : (b : ℕ) → b < 256 → (b ≡ 0 → ⊥) → (f : ℕ → Bool)
    → some 8 (λ k. column b k && f k) ≡ f (count_leading_zeros 8 b) || some 8 (λ k. column (without_bit b (count_leading_zeros 8 b)) k && f k)
unfolding some
set_or_behind b h set f =
    let z = count_leading_zeros 8 b in
    simp add-zero at (run_or_behind b z 1 0 (without_bit b z) (first_bit b h set) f)

-- what the byte stores in the old buffer, the bits left store in this one
pub record Left (byte at : ℕ) (old buf : List ℕ) (left : ℕ) : Type 0 where
  pub small : left < 256
  pub same : length buf ≡ length old
  pub is : painted (in_bits (column byte) at 8) 1 old ≡ painted (in_bits (column left) at 8) 1 buf
  pub room : bits_past (column left) at 8 (length old) ≡ false

module _ (byte at : ℕ) (old : List ℕ) where
  -- at first the whole byte is left
  pub all_left : byte < 2 ^ 8 → bits_past (column byte) at 8 (length old) ≡ false → Left byte at old old byte
  all_left h e = record { small = h; same = refl; is = refl; room = e }

  module _ (buf : List ℕ) (left : ℕ) (so_far : Left byte at old buf left) where
    -- where no bit is left, all are stored
    pub none_left : left ≡ 0 → buf ≡ painted (in_bits (column byte) at 8) 1 old
    unfolding in_bits some column
    none_left e = sym (so_far.is ∙ painted_none (in_bits (column left) at 8) 1 buf (λ i h. rw e refl))

    -- a bit is left: the first one's place, and what is behind it
    module _ (set-bit : left ≡ 0 → ⊥) where
      abbrev here : ℕ
      here = at + count_leading_zeros 8 left

      abbrev behind : ℕ
      behind = without_bit left (count_leading_zeros 8 left)

      no_past : (leb (length old) here ≡ false) × (bits_past (column behind) at 8 (length old) ≡ false)
      unfolding bits_past
      no_past =
          let past : ℕ → Bool = λ k. leb (length old) (at + k) in
          or_neither (leb (length old) here) (some 8 (λ k. column behind k && past k))
          (sym (set_or_behind left so_far.small set-bit past) ∙ so_far.room)

      inside : here < length old
      inside = leb-false (length old) here no_past.0

      -- its place lies in the buffer
      pub bit_fits : length old < 2 ^ 64 → Fits w64 (at + count_leading_zeros 8 left)
      bit_fits l = omega (arith, inside)

      pub bit_room : at + count_leading_zeros 8 left < length buf
      bit_room = omega (arith, inside, so_far.same)

      here_or_behind : (i : ℕ) → in_bits (column left) at 8 i ≡ eqb i here || in_bits (column behind) at 8 i
      unfolding in_bits
      here_or_behind i = set_or_behind left so_far.small set-bit (λ k. eqb i (at + k))

      -- with it stored, the bits behind it are left
      pub bit_stored : (new : List ℕ) → new ≡ set buf (at + count_leading_zeros 8 left) 1 → Left byte at old new (left - 128 / 2 ^ count_leading_zeros 8 left)
      bit_stored new e =
          let in_here : ℕ → Bool = λ i. eqb i here in
          let in_behind : ℕ → Bool = in_bits (column behind) at 8 in
          let stored : new ≡ painted in_here 1 buf = e ∙ set_painted buf here 1 in
          record {
            small = omega (arith, so_far.small);
            same = ap length stored ∙ length-painted in_here 1 buf ∙ so_far.same;
            is =
                so_far.is ∙ painted_same (in_bits (column left) at 8) (λ i. in_here i || in_behind i) 1 buf (λ i h. here_or_behind i)
                ∙ painted_or in_here in_behind 1 buf ∙ ap (painted in_behind 1) (sym stored);
            room = no_past.1;
          }

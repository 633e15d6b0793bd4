-- Past the record's test a code's entry is read from inside the bytes.
use mathlib.Core.Path.{◌≡◌, refl, subst}
use mathlib.Core.Bool.{true, ◌&&◌}
use Prim.Native.Nat.{ℕ, ◌+◌, ◌-◌, ◌*◌, ◌/◌, ◌%◌, ◌≤◌, ◌<◌}
use native.Mathlib.Nat.{mul-le-mul, mul_comm, mul-one, suc-mul}
use native.Mathlib.Numerals.{add-one}
use native.Mathlib.Omega.{arith}
use lib.Dec.{leb, ltb}
use borrow.Author.Tests.{leb-true, le-leb}
use Rattle.reads.specs.Range.{between}
use Rattle.reads.proofs.Tests.{split, either, both}
use Rattle.tables.specs.Codes.{entry_count}
use Rattle.tables.specs.Fits.{inside, codes_fit}
use Rattle.tables.specs.declared.EncodingData.{EncodingData}
use Rattle.tables.proofs.Items.{item_inside}
use Rattle.lookup.specs.Lookup.{one_byte, slot_whole, slot_bytes, slot_of}
use Rattle.lookup.specs.declared.Slot.{Slot}

-- how many entries the table has
abbrev entries : EncodingData → ℕ
entries c = entry_count c.low2 c.high2 c.low1 c.high1

-- an entry that there is
abbrev Known : EncodingData → Slot → Type 0
Known c (Slot.At i) = i < entries c
Known c Slot.Nothing = Unit {0}

-- a row's column, in so many rows: x is a row, y a column below the width
in_grid : (width rows x y : ℕ) → x < rows → y < width → x * width + y < width * rows
in_grid width rows x y h l =
    let more : (x + 1) * width ≤ rows * width = mul-le-mul {n₁ = x + 1} {m₁ = width} {n₂ = rows} {m₂ = width} (omega arith) (omega arith) in
    let row : (x + 1) * width ≡ x * width + width = rw (add-one, suc-mul x width) refl in
    rw (mul_comm width rows) (omega arith)

within : (low high n : ℕ) → between low high n ≡ true → (low ≤ n) × (n ≤ high)
within low high n e = let (l, h) = both (leb low n) (leb n high) e in (leb-true low n l, leb-true n high h)

module _ (c : EncodingData) (code : ℕ) where
  whole_known : Known c (slot_whole c code)
  whole_known =
      split (between c.low2 c.high2 code)
      (λ t. let (l, h) = within c.low2 c.high2 code t in
      let wide : c.high2 - c.low2 + 1 ≤ entries c =
      subst (λ n. n ≤ entries c) (mul-one (c.high2 - c.low2 + 1))
      (mul-le-mul {n₁ = c.high2 - c.low2 + 1} {m₁ = 1} {n₂ = c.high2 - c.low2 + 1} {m₂ = c.high1 - c.low1 + 1} (omega arith) (omega arith)) in
      rw t (omega arith))
      (λ t. rw t tt)

  bytes_known : Known c (slot_bytes c (code / 256) (code % 256))
  bytes_known =
      let byte1 = code / 256 in
      let byte2 = code % 256 in
      let t1 = between c.low1 c.high1 byte1 in
      let t2 = between c.low2 c.high2 byte2 in
      split (t1 && t2)
      (λ t. let (a, b) = both t1 t2 t in
      let (l1, h1) = within c.low1 c.high1 byte1 a in
      let (l2, h2) = within c.low2 c.high2 byte2 b in
      rw t (in_grid (c.high2 - c.low2 + 1) (c.high1 - c.low1 + 1) (byte1 - c.low1) (byte2 - c.low2) (omega arith) (omega arith)))
      (λ t. rw t tt)

  slot_known : Known c (slot_of c code)
  unfolding slot_of
  slot_known = either (Known c) (ltb 65535 code) tt (either (Known c) (one_byte c) whole_known bytes_known)

  pub entry_inside : (len i : ℕ) → codes_fit len c ≡ true → slot_of c code ≡ Slot.At i → c.entries + 2 * i + 2 ≤ len
  unfolding codes_fit
  entry_inside len i e at =
      let region = inside len c.entries c.size in
      let (up-to-bounds, room) = both (region && leb c.low2 c.high2 && leb c.low1 c.high1) (leb (2 * entries c) c.size) e in
      let (up-to-second, first) = both (region && leb c.low2 c.high2) (leb c.low1 c.high1) up-to-bounds in
      let (in_bytes, second) = both region (leb c.low2 c.high2) up-to-second in
      let known : i < entries c = subst (Known c) at slot_known in
      let whole : inside len c.entries (2 * entries c) ≡ true =
      le-leb (c.entries + 2 * entries c) len (omega (arith, leb-true (2 * entries c) c.size room, leb-true (c.entries + c.size) len in_bytes)) in
      item_inside len c.entries 2 (entries c) i whole known

-- What a code's lookup answers, by the tests that the code makes on its way.
use Prim.Native.Nat.{ℕ, ◌+◌, ◌-◌, ◌*◌, ◌/◌, ◌%◌, ◌≤◌, ◌<◌, min}
use mathlib.Core.Path.{◌≡◌}
use mathlib.Core.Bool.{Bool, true, false}
use mathlib.Core.List.{List}
use native.Mathlib.Nat.{mul-le-mul}
use native.Mathlib.Omega.{arith}
use mir.Syntax.{w32}
use mir.Val.{Fits}
use borrow.Author.Tests.{lt-ltb, le-ltb, le-leb, lt-leb, eq-eqb, ne_eqb}
use Rattle.reads.specs.Num.{u16_at}
use Rattle.tables.specs.declared.EncodingData.{EncodingData}
use Rattle.lookup.specs.CodeRange.{code_range}
use Rattle.lookup.specs.Lookup.{one_byte, slot_whole, slot_bytes, slot_of, no_glyph, entry_glyph, glyph_of}
use Rattle.lookup.specs.declared.Found.{Found}
use Rattle.lookup.specs.declared.Slot.{Slot}

-- ---- a code that is one number

module _ (c : EncodingData) (n : ℕ) where
  pub whole_under : n < c.low2 → Slot.Nothing ≡ slot_whole c n
  whole_under h = rw (lt-leb _ _ h)

  pub whole_over : c.low2 ≤ n → c.high2 < n → Slot.Nothing ≡ slot_whole c n
  whole_over l h = rw (le-leb _ _ l, lt-leb _ _ h)

  pub whole_at : c.low2 ≤ n → n ≤ c.high2 → Slot.At (n - c.low2) ≡ slot_whole c n
  whole_at l h = rw (le-leb _ _ l, le-leb _ _ h)

-- ---- a code that is two bytes

module _ (c : EncodingData) (byte1 byte2 : ℕ) where
  pub first_under : byte1 < c.low1 → Slot.Nothing ≡ slot_bytes c byte1 byte2
  first_under h = rw (lt-leb _ _ h)

  module _ (l : c.low1 ≤ byte1) where
    pub first_over : c.high1 < byte1 → Slot.Nothing ≡ slot_bytes c byte1 byte2
    first_over h = rw (le-leb _ _ l, lt-leb _ _ h)

    module _ (h : byte1 ≤ c.high1) where
      pub second_under : byte2 < c.low2 → Slot.Nothing ≡ slot_bytes c byte1 byte2
      second_under m = rw (le-leb _ _ l, le-leb _ _ h, lt-leb _ _ m)

      module _ (m : c.low2 ≤ byte2) where
        pub second_over : c.high2 < byte2 → Slot.Nothing ≡ slot_bytes c byte1 byte2
        second_over k = rw (le-leb _ _ l, le-leb _ _ h, le-leb _ _ m, lt-leb _ _ k)

        pub bytes_at_lem : byte2 ≤ c.high2 → Slot.At ((byte1 - c.low1) * (c.high2 - c.low2 + 1) + (byte2 - c.low2)) ≡ slot_bytes c byte1 byte2
        bytes_at_lem k = rw (le-leb _ _ l, le-leb _ _ h, le-leb _ _ m, le-leb _ _ k)

module _ (c : EncodingData) (byte1 : ℕ) (below : byte1 ≤ c.high1) (fits1 : c.high1 < 65536) (fits2 : c.high2 < 65536) where
  row_small : (byte1 - c.low1) * (c.high2 - c.low2 + 1) ≤ 65535 * 65536
  row_small = mul-le-mul {n₁ = byte1 - c.low1} {m₁ = c.high2 - c.low2 + 1} {n₂ = 65535} {m₂ = 65536} (omega arith) (omega arith)

  pub row_fits : Fits w32 ((byte1 - c.low1) * (c.high2 - c.low2 + 1))
  row_fits = omega (arith, row_small)

  pub entry_fits : (byte2 : ℕ) → byte2 ≤ c.high2 → Fits w32 ((byte1 - c.low1) * (c.high2 - c.low2 + 1) + (byte2 - c.low2))
  entry_fits byte2 h = omega (arith, row_small)

-- ---- any code

module _ (c : EncodingData) (n : ℕ) where
  pub slot_far : 65535 < n → Slot.Nothing ≡ slot_of c n
  unfolding slot_of
  slot_far h = rw (lt-ltb _ _ h)

  module _ (near : n ≤ 65535) (one : Bool) (one-is : one ≡ one_byte c) (r : Slot) where
    pub slot_one : one ≡ true → r ≡ slot_whole c n → r ≡ slot_of c n
    unfolding slot_of
    slot_one t is = rw (le-ltb _ _ near, ← one-is, t) is

    pub slot_two : one ≡ false → r ≡ slot_bytes c (n / 256) (n % 256) → r ≡ slot_of c n
    unfolding slot_of
    slot_two t is = rw (le-ltb _ _ near, ← one-is, t) is

pub entry_none : (g : ℕ) → g ≡ 65535 → no_glyph ≡ entry_glyph g
entry_none g e = rw (eq-eqb _ _ e)

pub entry_some : (g : ℕ) → (g ≡ 65535 → ⊥) → Found.Glyph (record { 0 = g }) ≡ entry_glyph g
entry_some g e = rw (ne_eqb _ _ e)

module _ (s : List ℕ) (c : EncodingData) (code : ℕ) (slot : Slot) (slot_is : slot ≡ slot_of c code) where
  pub glyph_there : (i g : ℕ) (r : Found) → slot ≡ Slot.At i → g ≡ u16_at c.big s (c.entries + 2 * i) → r ≡ entry_glyph g → r ≡ glyph_of s c code
  unfolding glyph_of
  glyph_there i g r e g-is is = rw (← slot_is, e, ← g-is) is

  pub glyph_none : slot ≡ Slot.Nothing → no_glyph ≡ glyph_of s c code
  unfolding glyph_of
  glyph_none e = rw (← slot_is, e)

-- ---- the range of codes

module _ (c : EncodingData) (one : Bool) (one-is : one ≡ one_byte c) where
  pub range_one : one ≡ true → c.high2 < 65536 → record { low = record { 0 = c.low2 }; end = record { 0 = c.high2 + 1 } } ≡ code_range c
  unfolding code_range
  range_one t h = let e : min (c.high2 + 1) 65536 ≡ c.high2 + 1 = omega arith in rw (← one-is, t, e)

  module _ (two : one ≡ false) where
    pub range_full : 255 ≤ c.high1 → record { low = record { 0 = 256 * c.low1 }; end = record { 0 = 65536 } } ≡ code_range c
    unfolding code_range
    range_full h = let e : min (256 * c.high1 + 256) 65536 ≡ 65536 = omega arith in rw (← one-is, two, e)

    pub range_two : c.high1 < 255 → record { low = record { 0 = 256 * c.low1 }; end = record { 0 = 256 * c.high1 + 256 } } ≡ code_range c
    unfolding code_range
    range_two h = let e : min (256 * c.high1 + 256) 65536 ≡ 256 * c.high1 + 256 = omega arith in rw (← one-is, two, e)

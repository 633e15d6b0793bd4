-- A code outside its table's range has no glyph, so what is asked of every code need be asked of that range alone.
use mathlib.Core.Path.{◌≡◌, refl}
use mathlib.Core.Bool.{◌&&◌}
use mathlib.Core.List.{List}
use mathlib.Core.Logic.{◌⊎◌, ⊎_elim}
use Prim.Native.Nat.{ℕ, ◌+◌, ◌*◌, ◌/◌, ◌%◌, ◌≤◌, ◌<◌, min}
use native.Mathlib.Omega.{arith}
use lib.Dec.{leb, ltb}
use borrow.Author.Tests.{leb-true, ltb-false}
use Rattle.reads.specs.Range.{between}
use Rattle.reads.proofs.Tests.{split, both}
use Rattle.tables.specs.declared.EncodingData.{EncodingData}
use Rattle.lookup.specs.Lookup.{one_byte, slot_of, no_glyph, glyph_of}
use Rattle.lookup.specs.CodeRange.{code_range}
use Rattle.lookup.specs.declared.Slot.{Slot}

module _ (c : EncodingData) (code : ℕ) where
  abbrev pub Outside : Type 0
  Outside = (code < (code_range c).low.0) ⊎ ((code_range c).end.0 ≤ code)

  outside_slot : Outside → slot_of c code ≡ Slot.Nothing
  unfolding slot_of code_range
  outside_slot out =
      split (ltb 65535 code) (λ t. rw t refl)
      (λ far. split (one_byte c)
      (λ one. split (between c.low2 c.high2 code)
      (λ t. let (l, h) = both (leb c.low2 code) (leb code c.high2) t in
      absurd (⊎_elim
      (λ below. let b : code < c.low2 = rw one at below in omega (arith, leb-true c.low2 code l))
      (λ above. let a : min (c.high2 + 1) 65536 ≤ code = rw one at above in omega (arith, leb-true code c.high2 h, ltb-false 65535 code far)) out))
      (λ t. rw (far, one, t) refl))
      (λ two. let first = between c.low1 c.high1 (code / 256) in
      split (first && between c.low2 c.high2 (code % 256))
      (λ t. let (b1, b2) = both first (between c.low2 c.high2 (code % 256)) t in
      let (l, h) = both (leb c.low1 (code / 256)) (leb (code / 256) c.high1) b1 in
      absurd (⊎_elim
      (λ below. let b : code < 256 * c.low1 = rw two at below in omega (arith, leb-true c.low1 (code / 256) l))
      (λ above. let a : min (256 * c.high1 + 256) 65536 ≤ code = rw two at above in
      omega (arith, leb-true (code / 256) c.high1 h, ltb-false 65535 code far)) out))
      (λ t. rw (far, two, t) refl)))

  pub outside_none : (s : List ℕ) → Outside → glyph_of s c code ≡ no_glyph
  unfolding glyph_of
  outside_none s out = rw (outside_slot out) refl

-- no code of the range exceeds 65,535
pub range_end : (c : EncodingData) → (code_range c).end.0 ≤ 65536
unfolding code_range
range_end c = omega arith

-- The tests of a code against its table's bounds, in plain logic and back, and what they say of its glyph.
use Prim.Native.Nat.{ℕ, ◌+◌, ◌-◌, ◌*◌, ◌/◌, ◌%◌, ◌≤◌}
use mathlib.Core.Path.{◌≡◌, sym, ◌∙◌}
use mathlib.Core.Bool.{true, false, not}
use mathlib.Core.List.{List}
use mathlib.Core.Logic.{inl, inr, ⊎_elim}
use native.Mathlib.Omega.{arith}
use lib.Dec.{leb, ltb, eqb}
use borrow.Author.Tests.{leb-true, leb-false, le-leb, eqb-true, eq-eqb}
use Rattle.reads.specs.Num.{u16_at}
use Rattle.reads.specs.Range.{between}
use Rattle.reads.specs.declared.Refusal.{Refusal}
use Rattle.reads.proofs.Tests.{never, split, both}
use Rattle.tables.specs.declared.EncodingData.{EncodingData}
use Rattle.lookup.specs.Lookup.{one_byte, slot_of, no_glyph, glyph_of}
use Rattle.lookup.specs.declared.Found.{Found}
use Rattle.lookup.specs.declared.Slot.{Slot}
use Rattle.why.specs.Codes.{first_outside, second_outside}
use Rattle.promises.specs.Why.{BothNought, Outside, FirstOutside, SecondOutside}

nought_one : (c : EncodingData) → one_byte c ≡ true → BothNought c
nought_one c e = let (a, b) = both (eqb c.low1 0) (eqb c.high1 0) e in (eqb-true c.low1 0 a, eqb-true c.high1 0 b)

one_nought : (c : EncodingData) → BothNought c → one_byte c ≡ true
one_nought c (a, b) = rw (eq-eqb c.low1 0 a, eq-eqb c.high1 0 b)

two_apart : (c : EncodingData) → one_byte c ≡ false → BothNought c → ⊥
two_apart c e w = never (sym e ∙ one_nought c w)

outside : (low high n : ℕ) → not (between low high n) ≡ true → Outside low high n
outside low high n e =
    split (leb low n)
    (λ t. split (leb n high) (λ u. never (rw (t, u) at e)) (λ u. inr (leb-false n high u)))
    (λ t. inl (leb-false low n t))

inside_bounds : (low high n : ℕ) → not (between low high n) ≡ false → (low ≤ n) × (n ≤ high)
inside_bounds low high n e =
    split (leb low n)
    (λ t. split (leb n high) (λ u. (leb-true low n t, leb-true n high u)) (λ u. never (sym (rw (t, u) at e))))
    (λ t. never (sym (rw t at e)))

not_outside : (low high n : ℕ) → not (between low high n) ≡ false → Outside low high n → ⊥
not_outside low high n e out = let w = inside_bounds low high n e in ⊎_elim (λ h. omega (arith, w)) (λ h. omega (arith, w)) out

module _ (c : EncodingData) (code : ℕ) where
  pub first_out : first_outside c code ≡ true → FirstOutside c code
  unfolding first_outside
  first_out e =
      let (two, out) = both (not (one_byte c)) (not (between c.low1 c.high1 (code / 256))) e in
      (λ w. never (rw (one_nought c w) at two), outside c.low1 c.high1 (code / 256) out)

  pub first_in : first_outside c code ≡ false → FirstOutside c code → ⊥
  unfolding first_outside
  first_in e (two, out) =
      split (one_byte c) (λ t. two (nought_one c t)) (λ t. not_outside c.low1 c.high1 (code / 256) (rw t at e) out)

  pub second_out : second_outside c code ≡ true → SecondOutside c code
  unfolding second_outside
  second_out e =
      split (one_byte c)
      (λ t. inl (nought_one c t, outside c.low2 c.high2 code (rw t at e)))
      (λ t. inr (two_apart c t, outside c.low2 c.high2 (code % 256) (rw t at e)))

  pub second_in : second_outside c code ≡ false → SecondOutside c code → ⊥
  unfolding second_outside
  second_in e =
      ⊎_elim
      (λ (one, out). not_outside c.low2 c.high2 code (rw (one_nought c one) at e) out)
      (λ (two, out). split (one_byte c) (λ t. two (nought_one c t)) (λ t. not_outside c.low2 c.high2 (code % 256) (rw t at e) out))

  -- inside all bounds there is an entry
  pub inside_slot : ltb 65535 code ≡ false → first_outside c code ≡ false → second_outside c code ≡ false → (i : ℕ) × (slot_of c code ≡ Slot.At i)
  unfolding first_outside second_outside slot_of
  inside_slot near first second =
      split (one_byte c)
      (λ t.
      let (l, h) = inside_bounds c.low2 c.high2 code (rw t at second) in
      (code - c.low2, rw (near, t, le-leb c.low2 code l, le-leb code c.high2 h)))
      (λ t.
      let (l1, h1) = inside_bounds c.low1 c.high1 (code / 256) (rw t at first) in
      let (l2, h2) = inside_bounds c.low2 c.high2 (code % 256) (rw t at second) in (
        (code / 256 - c.low1) * (c.high2 - c.low2 + 1) + (code % 256 - c.low2),
        rw (near, t, le-leb c.low1 (code / 256) l1, le-leb (code / 256) c.high1 h1, le-leb c.low2 (code % 256) l2, le-leb (code % 256) c.high2 h2),
      ))

  module _ (s : List ℕ) (i : ℕ) (stands : slot_of c code ≡ Slot.At i) where
    -- and where it has no glyph, that entry is 65,535
    pub entry_empty : (r : Refusal) → glyph_of s c code ≡ Found.Refused r → u16_at c.big s (c.entries + 2 * i) ≡ 65535
    unfolding glyph_of
    entry_empty r e =
        let entry = u16_at c.big s (c.entries + 2 * i) in
        split (eqb entry 65535) (λ t. eqb-true entry 65535 t)
        (λ t. let other : Found.Glyph (record { 0 = entry }) ≡ Found.Refused r = rw (stands, t) at e in let z : ◌≡◌ {A = ℕ} 0 1 = cc in absurd (omega arith))

    pub empty_none : u16_at c.big s (c.entries + 2 * i) ≡ 65535 → glyph_of s c code ≡ no_glyph
    unfolding glyph_of
    empty_none is = rw (stands, eq-eqb (u16_at c.big s (c.entries + 2 * i)) 65535 is)

  -- outside of them it has none
  pub above_none : (s : List ℕ) → ltb 65535 code ≡ true → glyph_of s c code ≡ no_glyph
  unfolding glyph_of slot_of
  above_none s far = rw far

  pub first_none : (s : List ℕ) → ltb 65535 code ≡ false → first_outside c code ≡ true → glyph_of s c code ≡ no_glyph
  unfolding glyph_of slot_of first_outside
  first_none s near e =
      split (one_byte c) (λ t. never (rw t at e))
      (λ t. split (between c.low1 c.high1 (code / 256)) (λ u. never (rw (t, u) at e)) (λ u. rw (near, t, u)))

  pub second_none : (s : List ℕ) → ltb 65535 code ≡ false → first_outside c code ≡ false → second_outside c code ≡ true → glyph_of s c code ≡ no_glyph
  unfolding glyph_of slot_of first_outside second_outside
  second_none s near f e =
      split (one_byte c)
      (λ t. split (between c.low2 c.high2 code) (λ u. never (rw (t, u) at e)) (λ u. rw (near, t, u)))
      (λ t. split (between c.low1 c.high1 (code / 256))
      (λ u. split (between c.low2 c.high2 (code % 256)) (λ v. never (rw (t, v) at e)) (λ v. rw (near, t, u, v)))
      (λ u. never (sym (rw (t, u) at f))))

-- How far a row reaches: up to the last byte that holds one of its columns, and no farther.
use Prim.Native.Nat.{ℕ, zero, suc, ◌+◌, ◌-◌, ◌*◌, ◌/◌, ◌%◌, ◌≤◌, ◌<◌, max}
use mathlib.Core.Path.{◌≡◌, refl, sym, ap, ◌∙◌}
use mathlib.Core.Bool.{Bool, true, false, beq}
use mathlib.Core.Logic.{◌⊎◌, inl, inr, ⊎_elim}
use native.Mathlib.Nat.{eq-or-lt_of_le, le_of_suc-le-suc, not-suc-le-zero, le_trans, mod-lt, one-mul, zero-mul, add-mul, mul-le-mul_right}
use native.Mathlib.Nat.{div-add-mod', add-div_right, div-mul-le_self, le-div_iff_mul-le, div-lt_iff_lt-mul}
use native.Mathlib.Omega.{arith}
use lib.Dec.{eqb, ltb}
use borrow.Author.Tests.{eqb-true, eqb-false, ne_eqb, ltb-true, ltb-false}
use Rattle.reads.specs.Num.{digit_index}
use Rattle.reads.proofs.Tests.{either, never, split}
use Rattle.bitmaps.specs.Units.{unit_bytes, byte_of}
use Rattle.bitmaps.specs.Rows.{row_bytes, row_end}
use Rattle.bitmaps.specs.Unpack.{whole_columns}
use Rattle.bitmaps.specs.declared.Order.{Order}
use Rattle.bitmaps.proofs.UnitBits.{unit_some, index_in, eight_held, same_held}

module _ (o : Order) where
  -- each column's byte lies before it
  pub end_above : (width c : ℕ) → c < width → byte_of o c < row_end o width
  unfolding row_end
  end_above zero c h = absurd (not-suc-le-zero h)
  end_above (suc width) c h =
      ⊎_elim (λ e. rw e (omega arith)) (λ l. omega (arith, end_above width c l)) (eq-or-lt_of_le (le_of_suc-le-suc h))

  -- the columns of whole bytes stand in the same bytes
  pub end_above_whole : (width c : ℕ) → c < whole_columns width → byte_of o c < row_end o width
  end_above_whole width c h =
      let e : 8 * (c / 8) + c % 8 ≡ c = omega arith in
      let same : byte_of o c ≡ byte_of o (8 * (c / 8)) = ap (byte_of o) (sym e) ∙ same_held o (c / 8) (c % 8) (omega arith) in
      rw same (end_above width (8 * (c / 8)) (omega arith))

  -- and some column's byte lies just before it
  pub end_reached : (width : ℕ) → 0 < width → (c : ℕ) × (c < width) × (byte_of o c + 1 ≡ row_end o width)
  unfolding row_end
  end_reached zero h = absurd (not-suc-le-zero h)
  end_reached (suc zero) h = (0, omega arith, omega arith)
  end_reached (suc (suc width)) h =
      let (c, l, e) = end_reached (suc width) (omega arith) in
      let old = row_end o (suc width) in
      let new = byte_of o (suc width) + 1 in
      split (ltb old new)
      (λ t. (suc width, omega arith, omega (arith, ltb-true old new t)))
      (λ t. (c, omega (arith, l), omega (arith, e, ltb-false old new t)))

-- ---- which byte of a row holds eight columns

pub four_bytes : (code : ℕ) → (code ≡ 0 → ⊥) → (code ≡ 1 → ⊥) → unit_bytes code ≡ 4
four_bytes code e f = rw (ne_eqb code 0 e, ne_eqb code 1 f) refl

four_most : (code : ℕ) → unit_bytes code ≤ 4
four_most code = either (λ (n : ℕ). n ≤ 4) (eqb code 0) (omega arith) (either (λ (n : ℕ). n ≤ 4) (eqb code 1) (omega arith) (omega arith))

-- counted twice from the same end, or once from the other
index_twice : (a b : Bool) (w v : ℕ) → v < w → beq a b ≡ true → digit_index a w (digit_index b w v) ≡ v
index_twice true true w v h e = refl
index_twice true false w v h e = never e
index_twice false true w v h e = never e
index_twice false false w v h e = omega arith

index_once : (a b : Bool) (w v : ℕ) → beq a b ≡ false → digit_index a w (digit_index b w v) ≡ w - 1 - v
index_once true true w v e = never (sym e)
index_once true false w v e = refl
index_once false true w v e = refl
index_once false false w v e = never (sym e)

module _ (o : Order) (j : ℕ) where
  eight : byte_of o (8 * j) ≡ j / unit_bytes o.unit * unit_bytes o.unit + digit_index o.big (unit_bytes o.unit) (digit_index o.top (unit_bytes o.unit) (j % unit_bytes o.unit))
  eight = let e : 8 * j ≡ 8 * j + 0 = omega arith in rw e (eight_held o j 0 (omega arith))

  -- not far from the place that the columns have
  pub held_below : byte_of o (8 * j) < j + 4
  held_below =
      let w = unit_bytes o.unit in
      let some = unit_some o.unit in
      let inside = index_in o.big w (digit_index o.top w (j % w)) (index_in o.top w (j % w) (mod-lt j some)) in
      omega (arith, eight, inside, div-mul-le_self j w, four_most o.unit)

  -- bytes in the order of the columns
  pub held_straight : beq o.big o.top ≡ true → byte_of o (8 * j) ≡ j
  held_straight t =
      let w = unit_bytes o.unit in
      eight ∙ rw (index_twice o.big o.top w (j % w) (mod-lt j (unit_some o.unit)) t) (div-add-mod' j w)

  -- bytes in the other order
  pub held_mirrored : (w : ℕ) → unit_bytes o.unit ≡ w → beq o.big o.top ≡ false → byte_of o (8 * j) ≡ j / w * w + (w - 1 - j % w)
  held_mirrored w e t = eight ∙ rw (e, index_once o.big o.top w (j % w) t) refl

  -- a unit of one byte, in either order
  pub held_alone : o.unit ≡ 0 → byte_of o (8 * j) ≡ j
  held_alone e =
      split (beq o.big o.top) held_straight
      (λ t. held_mirrored 1 (rw e refl) t ∙ omega arith)

-- ---- how far that makes a row reach

-- no byte takes no unit
none_whole : (w : ℕ) → 1 ≤ w → (0 + (w - 1)) / w * w ≡ 0
none_whole w some =
    let less : (0 + (w - 1)) / w < 1 = (div-lt_iff_lt-mul some).1 (omega (arith, one-mul w)) in
    let none : (0 + (w - 1)) / w ≡ 0 = omega (arith, less) in
    rw none (zero-mul w)

module _ (o : Order) where
  column_held : (c : ℕ) → byte_of o c ≡ byte_of o (8 * (c / 8))
  column_held c = let e : 8 * (c / 8) + c % 8 ≡ c = omega arith in ap (byte_of o) (sym e) ∙ same_held o (c / 8) (c % 8) (omega arith)

  -- a column more begins a byte, or stands in the byte of the column before it
  begun : (c : ℕ) → (row_bytes c ≡ c / 8) ⊎ (row_bytes c ≡ c / 8 + 1)
  begun c = split (eqb (c % 8) 0) (λ t. inl (let e = eqb-true (c % 8) 0 t in omega arith)) (λ t. inr (let e = eqb-false (c % 8) 0 t in omega arith))

  pub end_straight : ((j : ℕ) → byte_of o (8 * j) ≡ j) → (width : ℕ) → row_end o width ≡ row_bytes width
  unfolding row_end
  end_straight f zero = refl
  end_straight f (suc c) = omega (arith, end_straight f c, column_held c, f (c / 8))

  -- where a unit's bytes stand in the other order its first byte shows its last columns, so that the last unit counts whole
  module _ (w : ℕ) (some : 1 ≤ w) where
    abbrev whole : ℕ → ℕ
    whole x = (x + (w - 1)) / w * w

    -- x bytes and one more reach to the end of the unit that byte x is in
    whole_next : (x : ℕ) → whole (x + 1) ≡ x / w * w + w
    whole_next x =
        let e : x + 1 + (w - 1) ≡ x + w = omega arith in
        let q : (x + w) / w ≡ x / w + 1 = add-div_right x some in
        rw (e, q) (omega (arith, add-mul (x / w) 1 w))

    whole_grows : (x : ℕ) → whole x ≤ x / w * w + w
    whole_grows x =
        let q : (x + w) / w ≡ x / w + 1 = add-div_right x some in
        let low : (x + (w - 1)) / w * w ≤ x + w = le_trans (div-mul-le_self (x + (w - 1)) w) (omega arith) in
        let up : (x + (w - 1)) / w ≤ (x + w) / w = (le-div_iff_mul-le some).1 low in
        omega (arith, mul-le-mul_right w up, ap (λ (n : ℕ). n * w) q, add-mul (x / w) 1 w)

    -- unless a unit ends there, x bytes already do
    whole_begun : (x : ℕ) → 1 ≤ x % w → x / w * w + w ≤ whole x
    whole_begun x h =
        let room : (x / w + 1) * w ≤ x + (w - 1) = omega (arith, add-mul (x / w) 1 w, div-add-mod' x w) in
        let up : x / w + 1 ≤ (x + (w - 1)) / w = (le-div_iff_mul-le some).1 room in
        omega (arith, mul-le-mul_right w up, add-mul (x / w) 1 w)

    byte_whole : (x : ℕ) → max (whole x) (x / w * w + (w - 1 - x % w) + 1) ≡ whole (x + 1)
    byte_whole x =
        split (eqb (x % w) 0)
        (λ t. let e = eqb-true (x % w) 0 t in omega (arith, whole_next x, whole_grows x))
        (λ t. let e = eqb-false (x % w) 0 t in omega (arith, whole_next x, whole_grows x, whole_begun x (omega arith)))

    pub end_mirrored : ((j : ℕ) → byte_of o (8 * j) ≡ j / w * w + (w - 1 - j % w)) → (width : ℕ) → row_end o width ≡ whole (row_bytes width)
    unfolding row_end
    end_mirrored f zero = sym (none_whole w some)
    end_mirrored f (suc c) =
        let next : row_bytes (suc c) ≡ c / 8 + 1 = omega arith in
        let here : byte_of o c ≡ c / 8 / w * w + (w - 1 - c / 8 % w) = column_held c ∙ f (c / 8) in
        ⊎_elim (λ (e : row_bytes c ≡ c / 8). rw (next, end_mirrored f c, here, e) (byte_whole (c / 8)))
        (λ (e : row_bytes c ≡ c / 8 + 1). rw (next, end_mirrored f c, here, e) (omega (arith, whole_next (c / 8))))
        (begun c)

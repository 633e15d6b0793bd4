-- The pixels of rows of bits in plain logic: the search `some_dot` is document 01's "A set bit [...] at row r, column c < width colours
-- p + r × stride × scale + c × scale + a × stride + b for a, b below scale".
use Prim.Native.Nat.{ℕ, ◌+◌, ◌*◌, ◌≤◌, ◌<◌}
use mathlib.Core.Path.{◌≡◌, sym, ap, ◌∙◌}
use mathlib.Core.Bool.{Bool, true, false, ◌&&◌}
use native.Mathlib.Omega.{arith}
use lib.Dec.{eqb, leb}
use borrow.Author.Tests.{eqb-true, le-leb}
use Rattle.reads.proofs.Tests.{both, never, split}
use Rattle.bitmaps.specs.Paint.{some}
use Rattle.bitmaps.specs.Place.{Place, place_at}
use Rattle.bitmaps.specs.Dots.{block_dot, row_dot, some_dot}
use Rattle.bitmaps.proofs.Searching.{and_true, some_true, some_witness}

-- a pixel of a set bit of the first n rows that passes the test
pub record Dot (bit : ℕ → ℕ → Bool) (at : Place) (width n : ℕ) (test : ℕ → Bool) : Type 0 where
  pub row : ℕ
  pub column : ℕ
  pub down : ℕ
  pub right : ℕ
  pub row_in : row < n
  pub column_in : column < width
  pub down_in : down < at.scale
  pub right_in : right < at.scale
  pub is_set : bit row column ≡ true
  pub passes : test (at.p + row * at.stride * at.scale + column * at.scale + down * at.stride + right) ≡ true

module _ (bit : ℕ → ℕ → Bool) (at : Place) (width n : ℕ) (test : ℕ → Bool) where
  -- the test of the pixel of row r, column c that is a down and b right in its block
  abbrev passing : ℕ → ℕ → ℕ → ℕ → Bool
  passing r c a b = test (at.p + r * at.stride * at.scale + c * at.scale + a * at.stride + b)

  abbrev block : ℕ → ℕ → Bool
  block r c = some at.scale (λ a. some at.scale (λ b. passing r c a b))

  -- such a pixel is found
  pub dot_true : Dot bit at width n test → some_dot bit at width n test ≡ true
  unfolding some_dot row_dot block_dot
  dot_true d =
      let r = d.row in
      let c = d.column in
      let line = some_true at.scale (λ b. passing r c d.down b) d.right d.right_in d.passes in
      let all = some_true at.scale (λ a. some at.scale (λ b. passing r c a b)) d.down d.down_in line in
      let column = some_true width (λ k. bit r k && block r k) c d.column_in (and_true (bit r c) (block r c) d.is_set all) in
      some_true n (λ j. some width (λ k. bit j k && block j k)) r d.row_in column

  -- what is found is such a pixel
  pub dot_found : some_dot bit at width n test ≡ true → Dot bit at width n test
  unfolding some_dot row_dot block_dot
  dot_found e =
      let r = some_witness n (λ j. some width (λ k. bit j k && block j k)) e in
      let c = some_witness width (λ k. bit r.0 k && block r.0 k) r.2 in
      let all = (both (bit r.0 c.0) (block r.0 c.0) c.2).1 in
      let a = some_witness at.scale (λ i. some at.scale (λ b. passing r.0 c.0 i b)) all in
      let b = some_witness at.scale (λ i. passing r.0 c.0 a.0 i) a.2 in
      record {
        row = r.0;
        column = c.0;
        down = a.0;
        right = b.0;
        row_in = r.1;
        column_in = c.1;
        down_in = a.1;
        right_in = b.1;
        is_set = (both (bit r.0 c.0) (block r.0 c.0) c.2).0;
        passes = b.2;
      }

-- the same pixel in other bits, from another place on and by another test
pub dot_moved : (stride scale width n : ℕ) (bit bit' : ℕ → ℕ → Bool) (p p' : ℕ) (test test' : ℕ → Bool)
    → ((r c : ℕ) → r < n → c < width → bit r c ≡ true → bit' r c ≡ true) → ((k : ℕ) → test (p + k) ≡ true → test' (p' + k) ≡ true)
    → some_dot bit (place_at p stride scale) width n test ≡ true → some_dot bit' (place_at p' stride scale) width n test' ≡ true
dot_moved stride scale width n bit bit' p p' test test' bits tests e =
    let d = dot_found bit (place_at p stride scale) width n test e in
    let k = d.row * stride * scale + d.column * scale + d.down * stride + d.right in
    let here : p + d.row * stride * scale + d.column * scale + d.down * stride + d.right ≡ p + k = omega arith in
    let there : p' + d.row * stride * scale + d.column * scale + d.down * stride + d.right ≡ p' + k = omega arith in
    dot_true bit' (place_at p' stride scale) width n test' (record {
      row = d.row;
      column = d.column;
      down = d.down;
      right = d.right;
      row_in = d.row_in;
      column_in = d.column_in;
      down_in = d.down_in;
      right_in = d.right_in;
      is_set = bits d.row d.column d.row_in d.column_in d.is_set;
      passes = ap test' there ∙ tests k (rw here at d.passes);
    })

-- where 16 does not refuse, no pixel lies at or behind the buffer's end
pub none_beyond : (bit : ℕ → ℕ → Bool) (at : Place) (width n len : ℕ) → some_dot bit at width n (λ j. leb len j) ≡ false
    → (i : ℕ) → len ≤ i → some_dot bit at width n (λ j. eqb i j) ≡ false
none_beyond bit at width n len e i h =
    split (some_dot bit at width n (λ j. eqb i j))
    (λ t.
    let past =
    dot_moved at.stride at.scale width n bit bit at.p at.p (λ j. eqb i j) (λ j. leb len j) (λ r c l m set. set)
    (λ k f. le-leb len (at.p + k) (omega (arith, eqb-true i (at.p + k) f))) t
    in
    never (sym e ∙ past))
    (λ t. t)

-- A pixel of document 01's sentence, in plain logic, and the search that finds it.
use Prim.Native.Nat.{ℕ, ◌+◌, ◌*◌, ◌≤◌}
use mathlib.Core.Path.{◌≡◌, refl, sym, ◌∙◌}
use mathlib.Core.Bool.{Bool, true}
use lib.Dec.{eqb, leb}
use borrow.Author.Tests.{eqb-true, eq-eqb, leb-true}
use Rattle.reads.proofs.Tests.{never, split}
use Rattle.bitmaps.specs.Place.{Place}
use Rattle.bitmaps.specs.Dots.{some_dot}
use Rattle.bitmaps.proofs.Pixels.{dot_true, dot_found, none_beyond}
use Rattle.promises.specs.Drawing.{Coloured}

module _ (bit : ℕ → ℕ → Bool) (at : Place) (width n i : ℕ) where
  pub lit_dot : Coloured bit at width n i → some_dot bit at width n (λ j. eqb i j) ≡ true
  lit_dot d =
      dot_true bit at width n (λ j. eqb i j) (record {
        row = d.r;
        column = d.c;
        down = d.a;
        right = d.b;
        row_in = d.r_below;
        column_in = d.c_below;
        down_in = d.a_below;
        right_in = d.b_below;
        is_set = d.is_set;
        passes = eq-eqb i (at.p + d.r * at.stride * at.scale + d.c * at.scale + d.a * at.stride + d.b) d.is_there;
      })

  pub found_dot : some_dot bit at width n (λ j. eqb i j) ≡ true → Coloured bit at width n i
  found_dot e =
      let d = dot_found bit at width n (λ j. eqb i j) e in
      record {
        r = d.row;
        c = d.column;
        a = d.down;
        b = d.right;
        r_below = d.row_in;
        c_below = d.column_in;
        a_below = d.down_in;
        b_below = d.right_in;
        is_set = d.is_set;
        is_there = eqb-true i (at.p + d.row * at.stride * at.scale + d.column * at.scale + d.down * at.stride + d.right) d.passes;
      }

-- 16: one at or behind the end of `len` pixels is found, and what is found is one
module _ (bit : ℕ → ℕ → Bool) (at : Place) (width n len : ℕ) where
  pub past_dot : (i : ℕ) → len ≤ i → Coloured bit at width n i → some_dot bit at width n (λ j. leb len j) ≡ true
  past_dot i h d =
      split (some_dot bit at width n (λ j. leb len j)) (λ t. t)
      (λ t. never (sym (none_beyond bit at width n len t i h) ∙ lit_dot bit at width n i d))

  pub dot_past : some_dot bit at width n (λ j. leb len j) ≡ true → (i : ℕ) × (len ≤ i) × Coloured bit at width n i
  dot_past e =
      let d = dot_found bit at width n (λ j. leb len j) e in
      let i = at.p + d.row * at.stride * at.scale + d.column * at.scale + d.down * at.stride + d.right in (
        i,
        leb-true len i d.passes,
        record {
          r = d.row;
          c = d.column;
          a = d.down;
          b = d.right;
          r_below = d.row_in;
          c_below = d.column_in;
          a_below = d.down_in;
          b_below = d.right_in;
          is_set = d.is_set;
          is_there = refl;
        },
      )

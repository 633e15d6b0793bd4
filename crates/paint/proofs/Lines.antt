-- The pixels of a run of set bits: a line's one after the other, and a bar's line by line.
use Prim.Native.Nat.{ℕ, ◌+◌, ◌*◌, ◌≤◌, ◌<◌}
use mathlib.Core.Path.{◌≡◌, refl, ap, ◌∙◌}
use mathlib.Core.List.{List}
use native.Mathlib.Omega.{arith}
use lib.Dec.{eqb}
use lib.ListN.{length, set, length-set}
use Rattle.bitmaps.specs.Place.{place_at}
use Rattle.bitmaps.specs.Paint.{some, painted}
use Rattle.bitmaps.proofs.Painting.{length-painted, painted_zero, painted_more, set_painted}
use Rattle.paint.specs.Ink.{in_line, bar_dot, in_bar}

-- the first b of n pixels from `at` on are coloured
pub record Dotted (old : List ℕ) (at n colour : ℕ) (buf : List ℕ) (b : ℕ) : Type 0 where
  pub inside : b ≤ n
  pub same : length buf ≡ length old
  pub is : buf ≡ painted (in_line at b) colour old

module _ (old : List ℕ) (at n colour : ℕ) where
  pub no_dot : Dotted old at n colour old 0
  unfolding in_line
  no_dot = record { inside = omega arith; same = refl; is = painted_zero (λ i k. eqb i (at + k)) colour old }

  module _ (buf : List ℕ) (b : ℕ) (so_far : Dotted old at n colour buf b) where
    pub dot_more : b < n → Dotted old at n colour (set buf (at + b) colour) (b + 1)
    unfolding in_line
    dot_more h = record {
      inside = omega arith;
      same = length-set buf (at + b) colour ∙ so_far.same;
      is =
          set_painted buf (at + b) colour ∙ ap (painted (λ i. eqb i (at + b)) colour) so_far.is
          ∙ painted_more (λ i k. eqb i (at + k)) b colour old;
    }

    pub all_dots : n ≤ b → buf ≡ painted (in_line at n) colour old
    all_dots h = let e : b ≡ n = omega arith in rw e at so_far.is

-- the first a of a bar's lines are coloured
pub record Lined (old : List ℕ) (at stride scale long colour : ℕ) (buf : List ℕ) (a : ℕ) : Type 0 where
  pub inside : a ≤ scale
  pub same : length buf ≡ length old
  pub is : buf ≡ painted (λ i. some a (λ d. in_line (at + d * stride) long i)) colour old

module _ (old : List ℕ) (at stride scale long colour : ℕ) where
  pub no_line : Lined old at stride scale long colour old 0
  no_line = record { inside = omega arith; same = refl; is = painted_zero (λ i d. in_line (at + d * stride) long i) colour old }

  module _ (buf : List ℕ) (a : ℕ) (so_far : Lined old at stride scale long colour buf a) where
    pub line_more : (new : List ℕ) → a < scale → new ≡ painted (in_line (at + a * stride) long) colour buf → Lined old at stride scale long colour new (a + 1)
    line_more new h e = record {
      inside = omega arith;
      same = ap length e ∙ length-painted (in_line (at + a * stride) long) colour buf ∙ so_far.same;
      is =
          e ∙ ap (painted (in_line (at + a * stride) long) colour) so_far.is
          ∙ painted_more (λ i d. in_line (at + d * stride) long i) a colour old;
    }

    pub all_lines : scale ≤ a → buf ≡ painted (in_bar (place_at at stride scale) long) colour old
    unfolding in_bar bar_dot in_line
    all_lines h = let e : a ≡ scale = omega arith in rw e at so_far.is

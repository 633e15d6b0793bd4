-- Rows of bits drawn somewhere else, or read from somewhere else: the pixels are the same ones, moved. So a glyph drawn at p is one drawn
-- at the beginning of what the buffer has from p on.
use Prim.Native.Nat.{ℕ, ◌+◌, ◌-◌, ◌*◌, ◌<◌}
use mathlib.Core.Path.{◌≡◌, refl, sym, ap, ◌∙◌}
use mathlib.Core.Bool.{Bool, false}
use mathlib.Core.List.{List, ◌++◌}
use native.Mathlib.Omega.{arith}
use lib.Dec.{eqb, leb}
use lib.ListN.{length, take, drop}
use borrow.Author.Tests.{eqb-true, eq-eqb}
use borrow.Rule.Slice.PartMut.{put_mid}
use Rattle.reads.proofs.Tests.{split, same_leb}
use Rattle.bitmaps.specs.Paint.{painted}
use Rattle.bitmaps.specs.Place.{place_at}
use Rattle.bitmaps.specs.Dots.{some_dot}
use Rattle.bitmaps.proofs.Searching.{same_test}
use Rattle.bitmaps.proofs.Painting.{painted_tail, lent_is, lent_back}
use Rattle.bitmaps.proofs.Pixels.{dot_found, dot_moved}

same_eqb : (p i k : ℕ) → eqb (p + i) (p + k) ≡ eqb i (0 + k)
same_eqb p i k =
    same_test (eqb (p + i) (p + k)) (eqb i (0 + k))
    (λ t. eq-eqb i (0 + k) (omega (arith, eqb-true (p + i) (p + k) t)))
    (λ t. eq-eqb (p + i) (p + k) (omega (arith, eqb-true i (0 + k) t)))

module _ (stride scale width n : ℕ) where
  -- the search from place p on
  abbrev dots : (ℕ → ℕ → Bool) → ℕ → (ℕ → Bool) → Bool
  dots bit p test = some_dot bit (place_at p stride scale) width n test

  -- the same bits with the test moved as the place is
  pub dot_same : (bit bit' : ℕ → ℕ → Bool) (p p' : ℕ) (test test' : ℕ → Bool)
      → ((r c : ℕ) → r < n → c < width → bit r c ≡ bit' r c) → ((k : ℕ) → test (p + k) ≡ test' (p' + k)) → dots bit p test ≡ dots bit' p' test'
  dot_same bit bit' p p' test test' bits tests =
      same_test (dots bit p test) (dots bit' p' test')
      (dot_moved stride scale width n bit bit' p p' test test' (λ r c h l t. sym (bits r c h l) ∙ t) (λ k t. sym (tests k) ∙ t))
      (dot_moved stride scale width n bit' bit p' p test' test (λ r c h l t. bits r c h l ∙ t) (λ k t. tests k ∙ t))

  module _ (bit : ℕ → ℕ → Bool) (p : ℕ) where
    -- 16 asks how much room the buffer has from p on
    pub past_room : (len : ℕ) → dots bit p (λ j. leb len j) ≡ dots bit 0 (λ j. leb (len - p) j)
    past_room len =
        dot_same bit bit p 0 (λ j. leb len j) (λ j. leb (len - p) j) (λ r c h l. refl)
        (λ k. same_leb len (p + k) (len - p) (0 + k) (λ h. omega arith) (λ h. omega arith))

    -- no pixel lies before p
    pub none_before : (i : ℕ) → i < p → dots bit p (λ j. eqb i j) ≡ false
    none_before i h =
        split (dots bit p (λ j. eqb i j))
        (λ t.
        let d = dot_found bit (place_at p stride scale) width n (λ j. eqb i j) t in
        absurd (omega (arith, eqb-true i (p + d.row * stride * scale + d.column * scale + d.down * stride + d.right) d.passes)))
        (λ t. t)

    -- drawn in what was lent from p on, drawn in the whole
    pub lent_painted : (colour : ℕ) (old new : List ℕ) → new ≡ painted (λ i. dots bit 0 (λ j. eqb i j)) colour (take (length old - p) (drop p old))
        → put_mid p (length old - p) old new ≡ painted (λ i. dots bit p (λ j. eqb i j)) colour old
    lent_painted colour old new e =
        let first : ℕ → Bool = λ i. dots bit 0 (λ j. eqb i j) in
        lent_back p old new
        ∙ ap (λ (z : List ℕ). take p old ++ z) (e ∙ ap (painted first colour) (lent_is p old))
        ∙ painted_tail p colour first (λ i. dots bit p (λ j. eqb i j)) old none_before
        (λ i. dot_same bit bit p 0 (λ j. eqb (p + i) j) (λ j. eqb i j) (λ r c h l. refl) (λ k. same_eqb p i k))

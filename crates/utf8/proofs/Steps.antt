-- What a step answers, by the tests that the code makes on its way.
use Prim.Native.Nat.{ℕ, ◌+◌, ◌*◌, ◌%◌, ◌<◌, ◌≤◌}
use mathlib.Core.Path.{◌≡◌, refl, sym, ◌∙◌}
use mathlib.Core.Bool.{Bool, true, false, not}
use mathlib.Core.List.{List}
use native.Mathlib.Omega.{arith}
use lib.ListN.{length}
use borrow.Author.Tests.{lt-ltb, le-ltb, eq-eqb, ne_eqb, not-true, not-false}
use Rattle.reads.specs.Num.{byte_at}
use Rattle.reads.specs.Range.{between}
use Rattle.utf8.specs.Table.{lead_of, continues}
use Rattle.utf8.specs.Step.{step_at, longer, char, ill_formed}
use Rattle.utf8.specs.declared.Lead.{Lead}
use Rattle.utf8.specs.declared.Step.{Step}
use Rattle.utf8.proofs.Leads.{ascii}

module _ (s : List ℕ) (i : ℕ) where
  pub past_end : length s ≤ i → Step.End ≡ step_at s i
  unfolding step_at
  past_end h = rw (le-ltb _ _ h)

  module _ (inside : i < length s) where
    pub step_ascii : byte_at s i < 0x80 → char (byte_at s i) (i + 1) ≡ step_at s i
    unfolding step_at
    step_ascii h = simp (lt-ltb _ _ inside, ← ascii (byte_at s i) _ refl h)

    module _ (l : Lead) (l-is : l ≡ lead_of (byte_at s i)) where
      pub first_none : (r : Step) → l.size ≡ 0 → r ≡ ill_formed i → r ≡ step_at s i
      unfolding step_at
      first_none r e is = simp (is, lt-ltb _ _ inside, ← l-is, eq-eqb _ _ e)

      module _ (some : l.size ≡ 0 → ⊥) where
        pub step_one : l.size ≡ 1 → char (byte_at s i) (i + 1) ≡ step_at s i
        unfolding step_at
        step_one e = simp (lt-ltb _ _ inside, ← l-is, ne_eqb _ _ some, eq-eqb _ _ e)

        module _ (more : l.size ≡ 1 → ⊥) (b₂ : ℕ) (b₂_is : b₂ ≡ byte_at s (i + 1)) where
          pub step_longer : (b₃ b₄ : ℕ) (r : Step) → between l.low l.high b₂ ≡ true → b₃ ≡ byte_at s (i + 2) → b₄ ≡ byte_at s (i + 3)
              → r ≡ longer i l.size (byte_at s i) b₂ b₃ b₄ → r ≡ step_at s i
          unfolding step_at
          step_longer b₃ b₄ r t e f is =
              is ∙ sym (simp (lt-ltb _ _ inside, ← l-is, ne_eqb _ _ some, ne_eqb _ _ more, ← b₂_is, t, ← e, ← f))

          pub second_none : (r : Step) → between l.low l.high b₂ ≡ false → r ≡ ill_formed i → r ≡ step_at s i
          unfolding step_at
          second_none r t is = simp (is, lt-ltb _ _ inside, ← l-is, ne_eqb _ _ some, ne_eqb _ _ more, ← b₂_is, t)

-- ---- a longer character, six bits more with each byte

three_parts : (a b c x y : ℕ) → x ≡ a * 64 + b → y ≡ x * 64 + c → y ≡ a * 4096 + b * 64 + c
three_parts a b c x y e f = omega arith

four_parts : (a b c d x y z : ℕ) → x ≡ a * 64 + b → y ≡ x * 64 + c → z ≡ y * 64 + d → z ≡ a * 262144 + b * 4096 + c * 64 + d
four_parts a b c d x y z e f g = omega arith

module _ (i n b₁ b₂ b₃ b₄ : ℕ) where
  pub longer_two : n ≡ 2 → (x : ℕ) → x ≡ b₁ % 32 * 64 + b₂ % 64 → char x (i + 2) ≡ longer i n b₁ b₂ b₃ b₄
  unfolding longer
  longer_two two x e = rw (eq-eqb n 2 two, e) refl

  module _ (not-two : n ≡ 2 → ⊥) (third : Bool) (third-is : third ≡ continues b₃) where
    pub third_none : (r : Step) → not third ≡ true → r ≡ ill_formed i → r ≡ longer i n b₁ b₂ b₃ b₄
    unfolding longer
    third_none r t is = simp (is, ne_eqb n 2 not-two, ← third-is, not-true third t)

    module _ (goes_on : not third ≡ false) where
      pub longer_three : n ≡ 3 → (x y : ℕ) → x ≡ b₁ % 16 * 64 + b₂ % 64 → y ≡ x * 64 + b₃ % 64 → char y (i + 3) ≡ longer i n b₁ b₂ b₃ b₄
      unfolding longer
      longer_three three x y e f =
          rw (ne_eqb n 2 not-two, ← third-is, not-false third goes_on, eq-eqb n 3 three, three_parts (b₁ % 16) (b₂ % 64) (b₃ % 64) x y e f) refl

      module _ (not_three : n ≡ 3 → ⊥) (fourth : Bool) (fourth-is : fourth ≡ continues b₄) where
        pub fourth_none : (r : Step) → not fourth ≡ true → r ≡ ill_formed i → r ≡ longer i n b₁ b₂ b₃ b₄
        unfolding longer
        fourth_none r t is =
            simp (is, ne_eqb n 2 not-two, ← third-is, not-false third goes_on, ne_eqb n 3 not_three, ← fourth-is, not-true fourth t)

        pub longer_four : not fourth ≡ false → (x y z : ℕ) → x ≡ b₁ % 8 * 64 + b₂ % 64 → y ≡ x * 64 + b₃ % 64 → z ≡ y * 64 + b₄ % 64
            → char z (i + 4) ≡ longer i n b₁ b₂ b₃ b₄
        unfolding longer
        longer_four t x y z e f g =
            rw (ne_eqb n 2 not-two, ← third-is, not-false third goes_on, ne_eqb n 3 not_three, ← fourth-is, not-false fourth t)
            (rw (four_parts (b₁ % 8) (b₂ % 64) (b₃ % 64) (b₄ % 64) x y z e f g) refl)

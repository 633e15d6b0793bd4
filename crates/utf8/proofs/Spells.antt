-- The characters of a text are those that it spells: a step's code is encoded by the bytes that stand there, and an accepted text is
-- the encodings of its characters, one after another.
use Prim.Native.Nat.{ℕ, ◌+◌, ◌-◌, ◌*◌, ◌/◌, ◌%◌, ◌≤◌}
use mathlib.Core.Path.{◌≡◌, refl, ap, subst, ◌∙◌}
use mathlib.Core.Logic.{inl, inr}
use mathlib.Core.List.{List, [], ◌∷◌, ◌++◌}
use native.Mathlib.Omega.{arith}
use lib.ListN.{length, drop, drop_of_length-le}
use lib.Seq.{get_or-drop}
use borrow.Author.Tests.{lt-ltb, le-ltb}
use Rattle.reads.specs.declared.CharCode.{CharCode}
use Rattle.utf8.specs.Step.{step_at}
use Rattle.utf8.specs.Decode.{Char, chars, decoded}
use Rattle.utf8.specs.Encoding.{encoded, spelled, InPlace}
use Rattle.utf8.specs.WellFormed.{range, tail, lines, Fits, Sequence}
use Rattle.utf8.specs.declared.Step.{Step}
use Rattle.utf8.proofs.Characters.{code_of, code_at, step_coded, step_last}
use Rattle.utf8.proofs.Walk.{Left, left_end, left_bad, left_char, left_all}

-- ---- from a code's groups of six bits to its bytes

two : (c b₁ b₂ : ℕ) → c ≡ (b₁ - 0xC0) * 64 + (b₂ - 0x80) → 0xC2 ≤ b₁ → b₁ ≤ 0xDF → 0x80 ≤ b₂ → b₂ ≤ 0xBF → encoded c ≡ b₁ ∷ b₂ ∷ []
unfolding encoded
two c b₁ b₂ e h₁ k₁ h₂ k₂ =
    let x : 0xC0 + c / 64 ≡ b₁ = omega arith in
    let y : 0x80 + c % 64 ≡ b₂ = omega arith in
    rw (le-ltb c 0x80 (omega arith), lt-ltb c 0x800 (omega arith), x, y) refl

three : (c b₁ b₂ b₃ : ℕ) → c ≡ (b₁ - 0xE0) * 4096 + (b₂ - 0x80) * 64 + (b₃ - 0x80) → 0x800 ≤ c
    → 0xE0 ≤ b₁ → b₁ ≤ 0xEF → 0x80 ≤ b₂ → b₂ ≤ 0xBF → 0x80 ≤ b₃ → b₃ ≤ 0xBF → encoded c ≡ b₁ ∷ b₂ ∷ b₃ ∷ []
unfolding encoded
three c b₁ b₂ b₃ e h h₁ k₁ h₂ k₂ h₃ k₃ =
    let x : 0xE0 + c / 4096 ≡ b₁ = omega arith in
    let y : 0x80 + c / 64 % 64 ≡ b₂ = omega arith in
    let z : 0x80 + c % 64 ≡ b₃ = omega arith in
    rw (le-ltb c 0x80 (omega arith), le-ltb c 0x800 h, lt-ltb c 0x10000 (omega arith), x, y, z) refl

four : (c b₁ b₂ b₃ b₄ : ℕ) → c ≡ (b₁ - 0xF0) * 262144 + (b₂ - 0x80) * 4096 + (b₃ - 0x80) * 64 + (b₄ - 0x80) → 0x10000 ≤ c
    → 0xF0 ≤ b₁ → 0x80 ≤ b₂ → b₂ ≤ 0xBF → 0x80 ≤ b₃ → b₃ ≤ 0xBF → 0x80 ≤ b₄ → b₄ ≤ 0xBF → encoded c ≡ b₁ ∷ b₂ ∷ b₃ ∷ b₄ ∷ []
unfolding encoded
four c b₁ b₂ b₃ b₄ e h h₁ h₂ k₂ h₃ k₃ h₄ k₄ =
    let x : 0xF0 + c / 262144 ≡ b₁ = omega arith in
    let y : 0x80 + c / 4096 % 64 ≡ b₂ = omega arith in
    let z : 0x80 + c / 64 % 64 ≡ b₃ = omega arith in
    let w : 0x80 + c % 64 ≡ b₄ = omega arith in
    rw (le-ltb c 0x80 (omega arith), le-ltb c 0x800 (omega arith), le-ltb c 0x10000 h, x, y, z, w) refl

-- ---- from a line's bytes to a code and back

module _ (rest : List ℕ) where
  -- the code that these bytes make, whatever stands after them, is encoded by them
  abbrev Back : List ℕ → Type 0
  Back q = encoded (code_at (q ++ rest) 0 (length q)) ≡ q

  back_one : (q : List ℕ) → Fits (range 0x00 0x7F ∷ []) q → Back q
  unfolding encoded
  back_one [] f = absurd f
  back_one (b ∷ []) (h, k, f) = rw (lt-ltb b 0x80 (omega arith)) refl
  back_one (b ∷ x ∷ q) f = absurd f.2

  back_two : (q : List ℕ) → Fits (range 0xC2 0xDF ∷ tail ∷ []) q → Back q
  back_two [] f = absurd f
  back_two (b₁ ∷ []) f = absurd f.2
  back_two (b₁ ∷ b₂ ∷ []) (h₁, k₁, (h₂, k₂, f)) = two _ b₁ b₂ (omega arith) h₁ k₁ h₂ k₂
  back_two (b₁ ∷ b₂ ∷ x ∷ q) f = absurd f.2.2

  -- the lowest code of a line is not one of fewer bytes
  back_three : (from to low high : ℕ) → (0xE0 ≤ from) × (to ≤ 0xEF) × (0x80 ≤ low) × (high ≤ 0xBF) × (0x800 ≤ (from - 0xE0) * 4096 + (low - 0x80) * 64)
      → (q : List ℕ) → Fits (range from to ∷ range low high ∷ tail ∷ []) q → Back q
  back_three from to low high l [] f = absurd f
  back_three from to low high l (b₁ ∷ []) f = absurd f.2
  back_three from to low high l (b₁ ∷ b₂ ∷ []) f = absurd f.2.2
  back_three from to low high l (b₁ ∷ b₂ ∷ b₃ ∷ []) (h₁, k₁, (h₂, k₂, (h₃, k₃, f))) =
      let x : b₁ % 16 ≡ b₁ - 0xE0 = omega arith in
      let y : b₂ % 64 ≡ b₂ - 0x80 = omega arith in
      let z : b₃ % 64 ≡ b₃ - 0x80 = omega arith in
      three (code_of 3 b₁ b₂ b₃ 0) b₁ b₂ b₃ (rw (x, y, z) refl) (rw (x, y, z) (omega arith)) (omega arith) (omega arith) (omega arith) (omega arith) h₃ k₃
  back_three from to low high l (b₁ ∷ b₂ ∷ b₃ ∷ x ∷ q) f = absurd f.2.2.2

  back_four : (from to low high : ℕ) → (0xF0 ≤ from) × (to ≤ 0xF7) × (0x80 ≤ low) × (high ≤ 0xBF) × (0x10000 ≤ (from - 0xF0) * 262144 + (low - 0x80) * 4096)
      → (q : List ℕ) → Fits (range from to ∷ range low high ∷ tail ∷ tail ∷ []) q → Back q
  back_four from to low high l [] f = absurd f
  back_four from to low high l (b₁ ∷ []) f = absurd f.2
  back_four from to low high l (b₁ ∷ b₂ ∷ []) f = absurd f.2.2
  back_four from to low high l (b₁ ∷ b₂ ∷ b₃ ∷ []) f = absurd f.2.2.2
  back_four from to low high l (b₁ ∷ b₂ ∷ b₃ ∷ b₄ ∷ []) (h₁, k₁, (h₂, k₂, (h₃, k₃, (h₄, k₄, f)))) =
      let x : b₁ % 8 ≡ b₁ - 0xF0 = omega arith in
      let y : b₂ % 64 ≡ b₂ - 0x80 = omega arith in
      let z : b₃ % 64 ≡ b₃ - 0x80 = omega arith in
      let w : b₄ % 64 ≡ b₄ - 0x80 = omega arith in
      four (code_of 4 b₁ b₂ b₃ b₄) b₁ b₂ b₃ b₄ (rw (x, y, z, w) refl) (rw (x, y, z, w) (omega arith)) (omega arith) (omega arith) (omega arith) h₃ k₃ h₄ k₄
  back_four from to low high l (b₁ ∷ b₂ ∷ b₃ ∷ b₄ ∷ x ∷ q) f = absurd f.2.2.2.2

  sequence_back : (q : List ℕ) → Sequence q → Back q
  unfolding lines
  sequence_back q (inl f) = back_one q f
  sequence_back q (inr (inl f)) = back_two q f
  sequence_back q (inr (inr (inl f))) = back_three 0xE0 0xE0 0xA0 0xBF (omega arith) q f
  sequence_back q (inr (inr (inr (inl f)))) = back_three 0xE1 0xEC 0x80 0xBF (omega arith) q f
  sequence_back q (inr (inr (inr (inr (inl f))))) = back_three 0xED 0xED 0x80 0x9F (omega arith) q f
  sequence_back q (inr (inr (inr (inr (inr (inl f)))))) = back_three 0xEE 0xEF 0x80 0xBF (omega arith) q f
  sequence_back q (inr (inr (inr (inr (inr (inr (inl f))))))) = back_four 0xF0 0xF0 0x90 0xBF (omega arith) q f
  sequence_back q (inr (inr (inr (inr (inr (inr (inr (inl f)))))))) = back_four 0xF1 0xF3 0x80 0xBF (omega arith) q f
  sequence_back q (inr (inr (inr (inr (inr (inr (inr (inr (inl f))))))))) = back_four 0xF4 0xF4 0x80 0x8F (omega arith) q f
  sequence_back q (inr (inr (inr (inr (inr (inr (inr (inr (inr f))))))))) = absurd f

-- ---- the two laws

code_drop : (s : List ℕ) (i n : ℕ) → code_at s i n ≡ code_at (drop i s) 0 n
code_drop s i n =
    let here : i + 0 ≡ i = omega arith in
    rw (get_or-drop i s 0 0, get_or-drop i s 1 0, get_or-drop i s 2 0, get_or-drop i s 3 0, here) refl

pub step_spells : (text : List ℕ) (i : ℕ) (code : CharCode) (next : ℕ) → step_at text i ≡ Step.Char code next
    → (drop i text ≡ encoded code.0 ++ drop next text) × (next ≡ i + length (encoded code.0))
step_spells text i code next e =
    let g = step_coded text i code next e in
    let q = g.0 in
    let stands = g.1 in
    let is : encoded code.0 ≡ q = ap encoded (g.2 ∙ code_drop text i (length q) ∙ ap (λ (r : List ℕ). code_at r 0 (length q)) stands.2) ∙ sequence_back (drop next text) q stands.0 in
    rw is (stands.2, stands.1)

-- from byte i on the text spells these characters
abbrev Spelling : List ℕ → ℕ → List Char → Type 0
Spelling text i cs = (drop i text ≡ spelled cs) × InPlace i cs

left_spells : (text : List ℕ) (cs : List Char) (i : ℕ) → Left text i cs → Spelling text i cs
left_spells text [] i l = by (step_at text i) refl
  where
    by : (x : Step) → step_at text i ≡ x → Spelling text i []
    by (Step.Char code next) e =
        let g = left_char text i [] code next l e in
        let z : ◌≡◌ {A = ℕ} 0 1 = cc in absurd (omega arith)
    by Step.End e = (drop_of_length-le text (step_last text i e), tt)
    by (Step.Refused r) e = absurd (left_bad text i [] r l e)
left_spells text (c ∷ cs) i l = by (step_at text i) refl (left_spells text cs)
  where
    by : (x : Step) → step_at text i ≡ x → ((next : ℕ) → Left text next cs → Spelling text next cs) → Spelling text i (c ∷ cs)
    by (Step.Char code next) e more =
        let g = left_char text i (c ∷ cs) code next l e in
        let here : c ≡ record { byte = i; code = code.0 } = cc in
        let others : g.0 ≡ cs = cc in
        let x = step_spells text i code next e in
        let y = more next (subst (Left text next) others g.2) in
        rw (here, ← x.1) (x.0 ∙ ap (λ (r : List ℕ). encoded code.0 ++ r) y.0, (refl, y.1))
    by Step.End e more =
        let g = left_end text i (c ∷ cs) l e in
        let z : ◌≡◌ {A = ℕ} 0 1 = cc in absurd (omega arith)
    by (Step.Refused r) e more = absurd (left_bad text i (c ∷ cs) r l e)

-- an accepted text is the encodings of its characters, and each stands where those before it end
pub spells : (text : List ℕ) (cs : List Char) → decoded text ≡ chars cs → (text ≡ spelled cs) × InPlace 0 cs
spells text cs e = left_spells text cs 0 (left_all text cs e)

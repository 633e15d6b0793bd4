-- A step and the sequences: a character is a sequence that stands there, one that stands there is the character, and 19 where none does.
use Prim.Native.Nat.{ℕ, zero, suc, ◌+◌, ◌*◌, ◌%◌, ◌≤◌, ◌<◌}
use mathlib.Core.Path.{◌≡◌, refl, sym, ap, ◌∙◌}
use mathlib.Core.Bool.{Bool, true, false, cond, ◌&&◌}
use mathlib.Core.List.{List, [], ◌∷◌, ◌++◌}
use native.Mathlib.Omega.{arith}
use lib.Dec.{eqb, leb, ltb}
use lib.ListN.{length, take, drop, length-drop, take-append-drop}
use lib.Seq.{drop-cons, drop-drop, length-take-le}
use borrow.Author.Tests.{le-leb, leb-true, lt-ltb, ltb-true, ltb-false}
use Rattle.reads.specs.Num.{byte_at}
use Rattle.reads.specs.Range.{between}
use Rattle.reads.specs.Said.{refusal}
use Rattle.reads.specs.declared.CharCode.{CharCode}
use Rattle.reads.specs.declared.Refusal.{Refusal}
use Rattle.reads.proofs.Tests.{split, both}
use Rattle.utf8.specs.Table.{lead_of, continues}
use Rattle.utf8.specs.Step.{char, ill_formed, longer, step_at}
use Rattle.utf8.specs.WellFormed.{range, tail, Sequence}
use Rattle.utf8.specs.declared.Lead.{Lead}
use Rattle.utf8.specs.declared.Step.{Step}
use Rattle.utf8.proofs.Leads.{lead_bounds}
use Rattle.utf8.proofs.Steps.{past_end}
use Rattle.utf8.proofs.Lines.{after, after_length, later, sequence_some, sequence_follow, follow_sequence, begins, begins_at, begins_fits, fits_begins}

-- the bytes after i begin with such as the lead says
abbrev complete : Lead → List ℕ → ℕ → Bool
complete l s i = leb 1 l.size && begins (later l) (drop (i + 1) s)

abbrev inner : ℕ → ℕ → ℕ → ℕ → List ℕ → ℕ → Step
inner n low high b₁ s i =
    let b₂ = byte_at s (i + 1) in
    cond (eqb n 0) (ill_formed i)
    (cond (eqb n 1) (char b₁ (i + 1))
    (cond (between low high b₂) (longer i n b₁ b₂ (byte_at s (i + 2)) (byte_at s (i + 3)))
    (ill_formed i)))

two : (a : Bool) (x y : Step) → cond a x y ≡ cond (a && true) x y
two true x y = refl
two false x y = refl

three : (a b : Bool) (x y : Step) → cond a (cond b x y) y ≡ cond (a && (b && true)) x y
three true b x y = two b x y
three false b x y = refl

four : (a b c : Bool) (x y : Step) → cond a (cond b (cond c x y) y) y ≡ cond (a && (b && (c && true))) x y
four true b c x y = three b c x y
four false b c x y = refl

-- the code that n bytes make, 4 at most
abbrev pub code_of : ℕ → ℕ → ℕ → ℕ → ℕ → ℕ
code_of zero b₁ b₂ b₃ b₄ = 0
code_of (suc zero) b₁ b₂ b₃ b₄ = b₁
code_of (suc (suc zero)) b₁ b₂ b₃ b₄ = b₁ % 32 * 64 + b₂ % 64
code_of (suc (suc (suc zero))) b₁ b₂ b₃ b₄ = b₁ % 16 * 4096 + b₂ % 64 * 64 + b₃ % 64
code_of (suc (suc (suc (suc n)))) b₁ b₂ b₃ b₄ = b₁ % 8 * 262144 + b₂ % 64 * 4096 + b₃ % 64 * 64 + b₄ % 64

abbrev pub code_at : List ℕ → ℕ → ℕ → ℕ
code_at s i n = code_of n (byte_at s i) (byte_at s (i + 1)) (byte_at s (i + 2)) (byte_at s (i + 3))

inner_is : (n low high : ℕ) (s : List ℕ) (i : ℕ) → n ≤ 4 → (2 ≤ n → 1 ≤ low)
    → inner n low high (byte_at s i) s i ≡ cond (leb 1 n && begins (after n (range low high)) (drop (i + 1) s)) (char (code_at s i n) (i + n)) (ill_formed i)
unfolding longer
inner_is zero low high s i h l = refl
inner_is (suc zero) low high s i h l = refl
inner_is (suc (suc zero)) low high s i h l =
    rw (begins_at s (i + 1) (i + 2) (omega arith) (range low high) [] (l (omega arith))) (two (between low high (byte_at s (i + 1))) _ _)
inner_is (suc (suc (suc zero))) low high s i h l =
    rw (begins_at s (i + 1) (i + 2) (omega arith) (range low high) (tail ∷ []) (l (omega arith)))
    (rw (begins_at s (i + 2) (i + 3) (omega arith) tail [] (omega arith))
    (three (between low high (byte_at s (i + 1))) (continues (byte_at s (i + 2))) _ _))
inner_is (suc (suc (suc (suc zero)))) low high s i h l =
    rw (begins_at s (i + 1) (i + 2) (omega arith) (range low high) (tail ∷ tail ∷ []) (l (omega arith)))
    (rw (begins_at s (i + 2) (i + 3) (omega arith) tail (tail ∷ []) (omega arith), begins_at s (i + 3) (i + 4) (omega arith) tail [] (omega arith))
    (four (between low high (byte_at s (i + 1))) (continues (byte_at s (i + 2))) (continues (byte_at s (i + 3))) _ _))
inner_is (suc (suc (suc (suc (suc n))))) low high s i h l = absurd (omega arith)

module _ (s : List ℕ) (i : ℕ) where
  step_is : i < length s → let l = lead_of (byte_at s i) in step_at s i ≡ cond (complete l s i) (char (code_at s i l.size) (i + l.size)) (ill_formed i)
  unfolding step_at
  step_is h =
      let l = lead_of (byte_at s i) in
      let bounds = lead_bounds (byte_at s i) in
      rw (lt-ltb i (length s) h) (inner_is l.size l.low l.high s i bounds.0 bounds.1)

  cut : (m n : ℕ) → i < length s → n ≡ suc m → drop i s ≡ (byte_at s i ∷ take m (drop (i + 1) s)) ++ drop (i + n) s
  cut m n h e =
      let next : suc i ≡ i + 1 = omega arith in
      let past : i + 1 + m ≡ i + n = omega (arith, e) in
      let others : drop (suc i) s ≡ take m (drop (i + 1) s) ++ drop (i + n) s = rw (next, ← past, ← drop-drop m (i + 1) s, take-append-drop) in
      drop-cons s i 0 h ∙ ap (λ (r : List ℕ). byte_at s i ∷ r) others

  -- these bytes stand at i, and the next place is after them
  abbrev pub Stands : ℕ → List ℕ → Type 0
  Stands next q = Sequence q × (next ≡ i + length q) × (drop i s ≡ q ++ drop next s)

  sequence_here : i < length s → let l = lead_of (byte_at s i) in complete l s i ≡ true → (q : List ℕ) × Stands (i + l.size) q × (code_at s i l.size ≡ code_at s i (length q))
  sequence_here h t =
      let l = lead_of (byte_at s i) in
      let m = length (later l) in
      let rest = drop (i + 1) s in
      let u = both (leb 1 l.size) (begins (later l) rest) t in
      let some = leb-true 1 l.size u.0 in
      let g = begins_fits (later l) rest u.1 in
      let e = after_length l.size (range l.low l.high) some in
      let size : l.size ≡ length (byte_at s i ∷ take m rest) = omega (arith, e, length-take-le m rest g.0) in
      (byte_at s i ∷ take m rest, (follow_sequence (byte_at s i) (take m rest) (some, g.1), ap (λ (n : ℕ). i + n) size, cut m l.size h e), ap (code_at s i) size)

  abbrev Means : Step → Type 0
  Means (Step.Char code next) = (q : List ℕ) × Stands next q × (code.0 ≡ code_at s i (length q))
  Means Step.End = length s ≤ i
  Means (Step.Refused r) = (r ≡ refusal 19 i) × (i < length s)

  step_means : Means (step_at s i)
  step_means =
      split (ltb i (length s))
      (λ t.
      let h = ltb-true i (length s) t in
      rw (step_is h)
      (split (complete (lead_of (byte_at s i)) s i) (λ u. rw u (sequence_here h u)) (λ u. rw u (refl, h))))
      (λ t. rw (← past_end s i (ltb-false i (length s) t)) (ltb-false i (length s) t))

  pub step_coded : (code : CharCode) (next : ℕ) → step_at s i ≡ Step.Char code next → (q : List ℕ) × Stands next q × (code.0 ≡ code_at s i (length q))
  step_coded code next e = rw e at step_means

  pub step_sequence : (code : CharCode) (next : ℕ) → step_at s i ≡ Step.Char code next → (q : List ℕ) × Stands next q
  step_sequence code next e = let g = step_coded code next e in (g.0, g.1)

  pub step_last : step_at s i ≡ Step.End → length s ≤ i
  step_last e = rw e at step_means

  pub step_refused : (r : Refusal) → step_at s i ≡ Step.Refused r → (r ≡ refusal 19 i) × (i < length s)
  step_refused r e = rw e at step_means

  starts : (bs rest : List ℕ) → i < length s → Sequence (byte_at s i ∷ bs) → drop (i + 1) s ≡ bs ++ rest → (code : CharCode) × (step_at s i ≡ Step.Char code (i + suc (length bs)))
  starts bs rest h f e =
      let l = lead_of (byte_at s i) in
      let g = sequence_follow (byte_at s i) bs f in
      let b = fits_begins (later l) bs rest g.1 in
      let size : l.size ≡ suc (length bs) = omega (arith, b.1, after_length l.size (range l.low l.high) g.0) in
      let w : complete l s i ≡ true = rw (le-leb 1 l.size g.0, e) b.0 in
      let code : CharCode = record { 0 = code_at s i l.size } in
      (code, step_is h ∙ ap (λ (t : Bool). cond t (Step.Char code (i + l.size)) (ill_formed i)) w ∙ ap (λ (n : ℕ). Step.Char code (i + n)) size)

  pub sequence_step : (q rest : List ℕ) → Sequence q → drop i s ≡ q ++ rest → (code : CharCode) × (step_at s i ≡ Step.Char code (i + length q))
  sequence_step [] rest f e = absurd (sequence_some f)
  sequence_step (b ∷ bs) rest f e =
      let inside : i < length s = omega (arith, length-drop i s, ap (λ (r : List ℕ). length r) e) in
      let both_are : byte_at s i ∷ drop (suc i) s ≡ b ∷ (bs ++ rest) = sym (drop-cons s i 0 inside) ∙ e in
      let head : b ≡ byte_at s i = cc in
      let others : drop (suc i) s ≡ bs ++ rest = cc in
      let next : i + 1 ≡ suc i = omega arith in
      starts bs rest inside (rw head at f) (ap (λ (k : ℕ). drop k s) next ∙ others)

  pub step_none : (r : Refusal) (q rest : List ℕ) → step_at s i ≡ Step.Refused r → Sequence q → drop i s ≡ q ++ rest → ⊥
  step_none r q rest e f d = let c = sequence_step q rest f d in let z : ◌≡◌ {A = ℕ} 0 1 = cc in omega arith

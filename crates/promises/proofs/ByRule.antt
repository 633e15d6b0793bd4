-- A call that colours by a rule keeps to what `Keeps` says.
use Prim.Native.Nat.{ℕ, ◌≤◌, ◌<◌}
use mathlib.Core.Path.{◌≡◌, sym, ap, ◌∙◌}
use mathlib.Core.Bool.{Bool, true, false, cond}
use mathlib.Core.List.{List, ◌++◌}
use lib.ListN.{length, get_or}
use Rattle.reads.proofs.Tests.{split}
use Rattle.bitmaps.specs.Paint.{painted}
use Rattle.bitmaps.proofs.Painting.{length-painted, get_or-painted, painted_same, painted_none, painted_twice, painted_longer}
use Rattle.promises.specs.Drawing.{Call, after, Keeps}

-- the rule of a buffer's length has no pixel on a refusal, none beyond the buffer, and the same ones whenever no row is cut
module _ {A : Type 0} (call : Call A) (rule : ℕ → ℕ → Bool)
    (is : (old : List ℕ) → after call old ≡ painted (rule (length old)) call.colour old)
    (lit : (len i : ℕ) → call.coloured (call.answer len) i → rule len i ≡ true)
    (found : (len i : ℕ) → rule len i ≡ true → call.coloured (call.answer len) i)
    (none : (len : ℕ) → ((call.said (call.answer len)).number ≡ 0 → ⊥) → (i : ℕ) → rule len i ≡ false)
    (inside : (len i : ℕ) → len ≤ i → rule len i ≡ false)
    (same : (len more : ℕ) → call.whole (call.answer len) ≡ true → call.whole (call.answer more) ≡ true → (i : ℕ) → rule more i ≡ rule len i)
  where
    kept : (old : List ℕ) → length (after call old) ≡ length old
    kept old = ap length (is old) ∙ length-painted (rule (length old)) call.colour old

    -- the pixel at i is the colour or the old value, as the rule says
    pixel : (old : List ℕ) (i : ℕ) (t : Bool) → i < length old → rule (length old) i ≡ t → get_or (after call old) i 0 ≡ cond t call.colour (get_or old i 0)
    pixel old i t h e =
        ap (λ (z : List ℕ). get_or z i 0) (is old) ∙ get_or-painted (rule (length old)) call.colour old i h
        ∙ ap (λ (x : Bool). cond x call.colour (get_or old i 0)) e

    pub by_length : Keeps call
    by_length = record {
      length_kept = kept;
      refusal_leaves = λ old e. is old ∙ painted_none (rule (length old)) call.colour old (λ i h. none (length old) e i);
      pixel_coloured = λ old i h l. pixel old i true h (lit (length old) i l);
      pixel_kept = λ old i h no_lit. split (rule (length old) i) (λ t. absurd (no_lit (found (length old) i t))) (pixel old i false h);
      twice_once = λ old.
          let r = rule (length old) in (
            ap call.answer (kept old),
            is (after call old)
                ∙ ap (λ (n : ℕ). painted (rule n) call.colour (after call old)) (kept old)
                ∙ ap (painted r call.colour) (is old)
                ∙ painted_twice r call.colour old
                ∙ sym (is old),
          );
      longer_same = λ old more e f.
          let r = rule (length old) in
          is (old ++ more)
          ∙ painted_same (rule (length (old ++ more))) r call.colour (old ++ more) (λ i h. same (length old) (length (old ++ more)) e f i)
          ∙ painted_longer r call.colour old more (inside (length old))
          ∙ ap (λ (z : List ℕ). z ++ more) (sym (is old));
    }

-- a rule by the answer, of which there is one whenever no row is cut
module _ {A : Type 0} (call : Call A) (rule : A → ℕ → Bool)
    (is : (a : A) (old : List ℕ) → call.leaves a old ≡ painted (rule a) call.colour old)
    (lit : (a : A) (i : ℕ) → call.coloured a i → rule a i ≡ true)
    (found : (a : A) (i : ℕ) → rule a i ≡ true → call.coloured a i)
    (none : (a : A) → ((call.said a).number ≡ 0 → ⊥) → (i : ℕ) → rule a i ≡ false)
    (inside : (len i : ℕ) → len ≤ i → rule (call.answer len) i ≡ false)
    (same : (len more : ℕ) → call.whole (call.answer len) ≡ true → call.whole (call.answer more) ≡ true → call.answer more ≡ call.answer len)
  where
    pub by_rule : Keeps call
    by_rule =
        by_length call (λ len. rule (call.answer len)) (λ old. is (call.answer (length old)) old) (λ len. lit (call.answer len)) (λ len. found (call.answer len))
        (λ len. none (call.answer len)) inside (λ len more e f i. ap (λ (a : A). rule a i) (same len more e f))

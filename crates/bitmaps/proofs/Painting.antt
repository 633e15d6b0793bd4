-- What colouring does: it changes exactly the places that its rule has. Colouring twice, one store, and a buffer whose end was lent.
use Prim.Native.Nat.{ℕ, zero, suc, ◌+◌, ◌-◌, ◌≤◌, ◌<◌, suc-le-suc}
use mathlib.Core.Path.{◌≡◌, refl, sym, ap, ap₂, ◌∙◌}
use mathlib.Core.Bool.{Bool, true, false, cond, ◌||◌, or_self}
use mathlib.Core.List.{List, [], ◌∷◌, ◌++◌, append-nil}
use native.Mathlib.Nat.{le_of_eq, le_of_suc-le-suc, not-suc-le-zero, zero-lt-suc, suc-add, zero-add}
use native.Mathlib.Numerals.{add-one}
use native.Mathlib.Omega.{arith}
use lib.Dec.{eqb, eqb-zero-suc, eqb-suc-zero, eqb-suc-suc}
use lib.ListN.{length, get_or, set, take, drop, length-drop, drop_of_length-le}
use lib.Seq.{take_all}
use borrow.Rule.Slice.PartMut.{put_mid}
use Rattle.bitmaps.specs.Paint.{some, painted}

-- colouring changes no length
pub length-painted : (rule : ℕ → Bool) (colour : ℕ) (old : List ℕ) → length (painted rule colour old) ≡ length old
unfolding painted
length-painted rule colour [] = refl
length-painted rule colour (x ∷ xs) = ap suc (length-painted (λ i. rule (suc i)) colour xs)

-- each place that the rule has gets the colour, and every other place keeps its value
pub get_or-painted : (rule : ℕ → Bool) (colour : ℕ) (old : List ℕ) (i : ℕ)
    → i < length old → get_or (painted rule colour old) i 0 ≡ cond (rule i) colour (get_or old i 0)
unfolding painted
get_or-painted rule colour [] i h = absurd (not-suc-le-zero h)
get_or-painted rule colour (x ∷ xs) zero h = refl
get_or-painted rule colour (x ∷ xs) (suc i) h = get_or-painted (λ k. rule (suc k)) colour xs i (le_of_suc-le-suc h)

-- rules that agree on the buffer's places colour alike
pub painted_same : (p q : ℕ → Bool) (colour : ℕ) (old : List ℕ) → ((i : ℕ) → i < length old → p i ≡ q i) → painted p colour old ≡ painted q colour old
unfolding painted
painted_same p q colour [] h = refl
painted_same p q colour (x ∷ xs) h =
    ap₂ {C = List ℕ} (λ (b : Bool) (r : List ℕ). cond b colour x ∷ r) (h zero (zero-lt-suc _))
    (painted_same (λ k. p (suc k)) (λ k. q (suc k)) colour xs (λ i l. h (suc i) (suc-le-suc l)))

-- a rule that has no place of the buffer colours nothing
pub painted_none : (p : ℕ → Bool) (colour : ℕ) (old : List ℕ) → ((i : ℕ) → i < length old → p i ≡ false) → painted p colour old ≡ old
unfolding painted
painted_none p colour [] h = refl
painted_none p colour (x ∷ xs) h =
    ap₂ {C = List ℕ} (λ (b : Bool) (r : List ℕ). cond b colour x ∷ r) (h zero (zero-lt-suc _))
    (painted_none (λ k. p (suc k)) colour xs (λ i l. h (suc i) (suc-le-suc l)))

cond_or : (a b : Bool) (colour x : ℕ) → cond (a || b) colour x ≡ cond b colour (cond a colour x)
cond_or true true colour x = refl
cond_or true false colour x = refl
cond_or false b colour x = refl

-- colouring by one rule and then by another is colouring by either
pub painted_or : (p q : ℕ → Bool) (colour : ℕ) (old : List ℕ) → painted (λ i. p i || q i) colour old ≡ painted q colour (painted p colour old)
unfolding painted
painted_or p q colour [] = refl
painted_or p q colour (x ∷ xs) =
    ap₂ {C = List ℕ} (λ (y : ℕ) (r : List ℕ). y ∷ r) (cond_or (p zero) (q zero) colour x)
    (painted_or (λ k. p (suc k)) (λ k. q (suc k)) colour xs)

-- coloured by one rule and then by another, where a third has what either has
pub painted_in_turn : (colour : ℕ) (p q r : ℕ → Bool) (old buf new : List ℕ) → ((i : ℕ) → r i ≡ p i || q i)
    → buf ≡ painted p colour old → new ≡ painted q colour buf → new ≡ painted r colour old
painted_in_turn colour p q r old buf new either first second =
    second ∙ ap (painted q colour) first ∙ sym (painted_or p q colour old) ∙ painted_same (λ i. p i || q i) r colour old (λ i h. sym (either i))

-- colouring twice by one rule is colouring once
pub painted_twice : (p : ℕ → Bool) (colour : ℕ) (old : List ℕ) → painted p colour (painted p colour old) ≡ painted p colour old
painted_twice p colour old = sym (painted_or p p colour old) ∙ painted_same (λ i. p i || p i) p colour old (λ i h. or_self (p i))

-- a rule without places beyond the buffer colours nothing that is put behind it
pub painted_longer : (p : ℕ → Bool) (colour : ℕ) (old more : List ℕ) → ((i : ℕ) → length old ≤ i → p i ≡ false)
    → painted p colour (old ++ more) ≡ painted p colour old ++ more
unfolding painted
painted_longer p colour [] more h = painted_none p colour more (λ i l. h i (omega arith))
painted_longer p colour (x ∷ xs) more h =
    ap {B = List ℕ} (λ (r : List ℕ). cond (p zero) colour x ∷ r)
    (painted_longer (λ i. p (suc i)) colour xs more (λ i l. h (suc i) (suc-le-suc l)))

-- a store colours one place
pub set_painted : (old : List ℕ) (i colour : ℕ) → set old i colour ≡ painted (λ k. eqb k i) colour old
unfolding painted
set_painted [] i colour = refl
set_painted (x ∷ xs) zero colour =
    ap {B = List ℕ} (λ (r : List ℕ). colour ∷ r) (sym (painted_none (λ k. eqb (suc k) zero) colour xs (λ i h. eqb-suc-zero i)))
set_painted (x ∷ xs) (suc i) colour =
    ap₂ {C = List ℕ} (λ (b : Bool) (r : List ℕ). cond b colour x ∷ r) (sym (eqb-zero-suc i))
    (set_painted xs i colour ∙ painted_same (λ k. eqb k i) (λ k. eqb (suc k) (suc i)) colour xs (λ k h. sym (eqb-suc-suc k i)))

-- a loop that colours, before its first turn
pub painted_zero : (f : ℕ → ℕ → Bool) (colour : ℕ) (old : List ℕ) → old ≡ painted (λ i. some 0 (f i)) colour old
unfolding some
painted_zero f colour old = sym (painted_none (λ i. some 0 (f i)) colour old (λ i h. refl))

-- one turn more
pub painted_more : (f : ℕ → ℕ → Bool) (n colour : ℕ) (old : List ℕ)
    → painted (λ i. f i n) colour (painted (λ i. some n (f i)) colour old) ≡ painted (λ i. some (n + 1) (f i)) colour old
unfolding some
painted_more f n colour old = rw add-one (sym (painted_or (λ i. some n (f i)) (λ i. f i n) colour old))

-- the buffer's end from s on, coloured by itself, colours the whole by the rule moved by s
pub painted_tail : (s colour : ℕ) (p q : ℕ → Bool) (old : List ℕ) → ((i : ℕ) → i < s → q i ≡ false) → ((j : ℕ) → q (s + j) ≡ p j)
    → take s old ++ painted p colour (drop s old) ≡ painted q colour old
unfolding painted
painted_tail zero colour p q old low high = painted_same p q colour old (λ i l. sym (high i) ∙ ap q (zero-add i))
painted_tail (suc s) colour p q [] low high = refl
painted_tail (suc s) colour p q (x ∷ xs) low high =
    ap₂ {C = List ℕ} (λ (b : Bool) (r : List ℕ). cond b colour x ∷ r) (sym (low zero (zero-lt-suc s)))
    (painted_tail s colour p (λ k. q (suc k)) xs (λ i l. low (suc i) (suc-le-suc l)) (λ j. ap q (sym (suc-add s j)) ∙ high j))

-- what is lent of a buffer from s on, how long it is, and the buffer when it comes back
pub lent_is : (s : ℕ) (old : List ℕ) → take (length old - s) (drop s old) ≡ drop s old
lent_is s old = take_all _ _ (le_of_eq (length-drop s old))

pub lent_length : (s : ℕ) (old : List ℕ) → length (take (length old - s) (drop s old)) ≡ length old - s
lent_length s old = ap length (lent_is s old) ∙ length-drop s old

pub lent_back : (s : ℕ) (old new : List ℕ) → put_mid s (length old - s) old new ≡ take s old ++ new
lent_back s old new =
    ap (λ (z : List ℕ). take s old ++ (new ++ z)) (drop_of_length-le (drop s old) (le_of_eq (length-drop s old)))
    ∙ ap (λ (z : List ℕ). take s old ++ z) (append-nil new)

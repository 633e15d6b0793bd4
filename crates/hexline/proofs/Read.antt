-- What an answer of `hex_read` tells: of a number of bytes, that every line is good and how many bytes they have, so that a long text
-- has no such answer; of a refusal, its number and that all lines before its place are good.
use Prim.Native.Nat.{ℕ, suc, ◌+◌, ◌-◌, ◌*◌, ◌/◌, ◌%◌, ◌≤◌, ◌<◌}
use native.Mathlib.Nat.{add-zero}
use native.Mathlib.Omega.{arith}
use mathlib.Core.Path.{◌≡◌, refl, sym, ap, subst, ◌∙◌}
use mathlib.Core.Bool.{Bool, true, false, ◌&&◌}
use mathlib.Core.List.{List, [], ◌∷◌, ◌++◌}
use mathlib.Core.Logic.{◌⊎◌, inl, inr}
use lib.ListN.{length, take, drop, length-append}
use lib.Seq.{length-take-le}
use lib.Dec.{leb, eqb}
use borrow.Author.Tests.{leb-true, leb-false, eqb-true}
use Rattle.reads.specs.Range.{between}
use Rattle.reads.specs.Said.{refusal}
use Rattle.reads.specs.declared.Refusal.{Refusal}
use Rattle.reads.proofs.Tests.{never, split, both}
use Rattle.hexline.specs.Lines.{in_front, lines_of, all_digits, good_line, is_empty, bad_line, bytes_from, hex_read}
use Rattle.hexline.specs.Lines.{pairs, all_pairs, hex_bytes, said_hex}
use Rattle.hexline.specs.declared.HexRead.{HexRead}

-- ---- an answer is one of the two

abbrev pub count_of : HexRead → ℕ
count_of (HexRead.Bytes n) = n
count_of (HexRead.Refused q) = 0

abbrev pub is_bytes : HexRead → Bool
is_bytes (HexRead.Bytes n) = true
is_bytes (HexRead.Refused q) = false

pub either_answer : {P : Type 0} (r : HexRead) → ((n : ℕ) → r ≡ HexRead.Bytes n → P) → ((q : Refusal) → r ≡ HexRead.Refused q → P) → P
either_answer (HexRead.Bytes n) f g = f n refl
either_answer (HexRead.Refused q) f g = g q refl

-- ---- a good line

-- "2 to 64 upper-case hexadecimal digits, even in number"
pub record GoodLine (l : List ℕ) : Type 0 where
  pub two : 2 ≤ length l
  pub sixty_four : length l ≤ 64
  pub even : length l % 2 ≡ 0
  pub digits : all_digits l ≡ true

pub good_line_lem : (l : List ℕ) → good_line l ≡ true → GoodLine l
unfolding good_line
good_line_lem l e =
    let sized = both (between 2 64 (length l) && eqb (length l % 2) 0) (all_digits l) e in
    let parted = both (between 2 64 (length l)) (eqb (length l % 2) 0) sized.0 in
    let bounds = both (leb 2 (length l)) (leb (length l) 64) parted.0 in
    record {
      two = leb-true 2 (length l) bounds.0;
      sixty_four = leb-true (length l) 64 bounds.1;
      even = eqb-true (length l % 2) 0 parted.1;
      digits = sized.1;
    }

abbrev pub AllGood : List (List ℕ) → Type 0
AllGood [] = Unit {0}
AllGood (l ∷ ls) = GoodLine l × AllGood ls

length_pairs : (l : List ℕ) → length (pairs l) ≡ length l / 2
unfolding pairs
length_pairs [] = refl
length_pairs (a ∷ []) = refl
length_pairs (a ∷ b ∷ cs) = omega (arith, length_pairs cs)

-- ---- lines that were read whole

-- lines with n bytes before them and m with them
pub record Whole (ls : List (List ℕ)) (rest : List ℕ) (n m : ℕ) : Type 0 where
  pub good : AllGood ls
  pub ended : rest ≡ []
  pub count : m ≡ n + length (all_pairs ls)
  pub most : n ≤ 49152 → m ≤ 49152

whole_lines : (ls : List (List ℕ)) (rest : List ℕ) (k n m : ℕ) → bytes_from ls rest k n ≡ HexRead.Bytes m → Whole ls rest n m
unfolding bytes_from all_pairs
whole_lines [] [] k n m e =
    let same : n ≡ m = ap count_of e in
    record { good = tt; ended = refl; count = omega (arith, same); most = λ h. omega (arith, same, h) }
whole_lines [] (c ∷ cs) k n m e = never (ap is_bytes e)
whole_lines (l ∷ ls) rest k n m e =
    let more = n + length l / 2 in
    split (good_line l)
    (λ t. split (leb more 49152)
    (λ u. let w = whole_lines ls rest (k + 1) more m (rw (t, u) at e) in
    let long = length-append (pairs l) (all_pairs ls) in
    let pair = length_pairs l in
    record {
      good = (good_line_lem l t, w.good);
      ended = w.ended;
      count = omega (arith, w.count, long, pair);
      most = λ h. w.most (leb-true more 49152 u);
    })
    (λ u. never (ap is_bytes (rw (t, u) at e))))
    (λ t. never (ap is_bytes (rw t at e)))

module _ (text : List ℕ) (n : ℕ) (e : hex_read text ≡ HexRead.Bytes n) where
  pub whole_text_lem : Whole (lines_of text).ended (lines_of text).rest 0 n
  unfolding hex_read
  whole_text_lem = whole_lines (lines_of text).ended (lines_of text).rest 1 0 n e

  -- the answer counts the bytes
  pub bytes_count : length (hex_bytes text) ≡ n
  unfolding hex_bytes
  bytes_count = omega (arith, whole_text_lem.count)

  pub bytes_most : n ≤ 49152
  bytes_most = whole_text_lem.most (omega arith)

-- ---- a long text

-- the characters of lines, each with its newline
abbrev size : List (List ℕ) → ℕ
size [] = 0
size (l ∷ ls) = length l + 1 + size ls

size_front : (c : ℕ) (ls : List (List ℕ)) (rest : List ℕ)
    → size (in_front c ls rest).ended + length (in_front c ls rest).rest ≡ suc (size ls + length rest)
size_front c [] rest = omega arith
size_front c (l ∷ ls) rest = omega arith

size_text : (text : List ℕ) → size (lines_of text).ended + length (lines_of text).rest ≡ length text
unfolding lines_of
size_text [] = refl
size_text (c ∷ cs) =
    let later = size_text cs in
    split (eqb c 10) (λ t. rw t (omega (arith, later)))
    (λ t. rw t (size_front c (lines_of cs).ended (lines_of cs).rest ∙ ap suc later))

-- a byte takes two digits, and a line of at least one byte a newline
size_good : (ls : List (List ℕ)) → AllGood ls → size ls ≤ 3 * length (all_pairs ls)
unfolding all_pairs
size_good [] g = omega arith
size_good (l ∷ ls) g =
    let long = length-append (pairs l) (all_pairs ls) in
    let pair = length_pairs l in
    omega (arith, size_good ls g.1, long, pair, g.0.two)

pub characters_most : (text : List ℕ) (n : ℕ) → hex_read text ≡ HexRead.Bytes n → length text ≤ 3 * n
characters_most text n e =
    let w = whole_text_lem text n e in
    let none = ap length w.ended in
    omega (arith, size_text text, size_good (lines_of text).ended w.good, w.count, none)

-- ---- a refusal

-- what the first of these lines, with n bytes before it, is refused for: it is not good, or there are too many bytes with it, or it
-- is the last and no newline ends it
abbrev pub Trouble : List (List ℕ) → List ℕ → ℕ → Type 0
Trouble [] rest n = is_empty rest ≡ false
Trouble (l ∷ ls) rest n = (good_line l ≡ false) ⊎ (49152 < n + length l / 2)

-- the refusal of lines from number k on, with n bytes before them: the lines before the place are good, and the one there is not
pub record FirstBad (ls : List (List ℕ)) (rest : List ℕ) (k n : ℕ) (q : Refusal) : Type 0 where
  pub number : q.number ≡ 20
  pub from : k ≤ q.place
  pub before_good : AllGood (take (q.place - k) ls)
  pub bad : Trouble (drop (q.place - k) ls) rest (n + length (all_pairs (take (q.place - k) ls)))

abbrev refused_with : Refusal → HexRead → Refusal
refused_with q (HexRead.Bytes n) = q
refused_with q (HexRead.Refused r) = r

bad_here : (ls : List (List ℕ)) (rest : List ℕ) (k n : ℕ) (q : Refusal)
    → bad_line k ≡ HexRead.Refused q → Trouble ls rest n → FirstBad ls rest k n q
unfolding all_pairs
bad_here ls rest k n q e t =
    let same : refusal 20 k ≡ q = ap (refused_with q) e in
    let at : k ≡ q.place = ap (λ (r : Refusal). r.place) same in
    let none : q.place - k ≡ 0 = omega (arith, at) in
    record {
      number = sym (ap (λ (r : Refusal). r.number) same);
      from = omega (arith, at);
      before_good = rw none tt;
      bad = rw (none, add-zero n) t;
    }

first_bad_line : (ls : List (List ℕ)) (rest : List ℕ) (k n : ℕ) (q : Refusal)
    → bytes_from ls rest k n ≡ HexRead.Refused q → FirstBad ls rest k n q
unfolding bytes_from all_pairs
first_bad_line [] [] k n q e = never (sym (ap is_bytes e))
first_bad_line [] (c ∷ cs) k n q e = bad_here [] (c ∷ cs) k n q e refl
first_bad_line (l ∷ ls) rest k n q e =
    let more = n + length l / 2 in
    split (good_line l)
    (λ t. split (leb more 49152)
    (λ u. let b = first_bad_line ls rest (k + 1) more q (rw (t, u) at e) in
    let one : q.place - k ≡ suc (q.place - (k + 1)) = omega (arith, b.from) in
    let before = all_pairs (take (q.place - (k + 1)) ls) in
    let bytes : more + length before ≡ n + length (pairs l ++ before) = omega (arith, length-append (pairs l) before, length_pairs l) in
    record {
      number = b.number;
      from = omega (arith, b.from);
      before_good = rw one (good_line_lem l t, b.before_good);
      bad = rw one (subst (Trouble (drop (q.place - (k + 1)) ls) rest) bytes b.bad);
    })
    (λ u. bad_here (l ∷ ls) rest k n q (rw (t, u) at e) (inr (leb-false more 49152 u))))
    (λ t. bad_here (l ∷ ls) rest k n q (rw t at e) (inl t))

pub first_bad : (text : List ℕ) (q : Refusal) → hex_read text ≡ HexRead.Refused q → FirstBad (lines_of text).ended (lines_of text).rest 1 0 q
unfolding hex_read
first_bad text q e = first_bad_line (lines_of text).ended (lines_of text).rest 1 0 q e

-- 49,152 bytes are at most 147,456 characters
pub long_refused : (text : List ℕ) → 147456 < length text → (said_hex (hex_read text)).number ≡ 20
long_refused text h =
    either_answer (hex_read text)
    (λ n e. absurd (omega (arith, h, characters_most text n e, bytes_most text n e)))
    (λ q e. rw e (first_bad text q e).number)

-- so that of a longer text the first 147,457 characters are enough
pub cut_refused : (text : List ℕ) → 147456 < length text → (said_hex (hex_read (take 147457 text))).number ≡ 20
cut_refused text h = long_refused (take 147457 text) (omega (arith, h, length-take-le 147457 text h))

-- The lines character by character: what is left of a text says the same after its next character, or that character makes its line
-- bad. A line is known by how many of its digits were read, so that no character is looked at twice.
use Prim.Native.Nat.{ℕ, suc, ◌+◌, ◌/◌, ◌%◌, ◌≤◌, ◌<◌}
use native.Mathlib.Nat.{add-zero, zero-add}
use native.Mathlib.Numerals.{add-one}
use native.Mathlib.Omega.{arith}
use mathlib.Core.Path.{◌≡◌, refl, sym, ap, ◌∙◌}
use Rattle.std.specs.Prelude.{Option, Some, None, MatchOption}
use Rattle.std.specs.Option.{is_some}
use mathlib.Core.Bool.{true, false, Bool, cond, ◌&&◌, and-true, and-false}
use mathlib.Core.List.{List, [], ◌∷◌}
use lib.ListN.{length, drop, get_or, drop_of_length-le}
use lib.Seq.{drop-cons}
use lib.Dec.{leb, eqb}
use borrow.Author.Tests.{lt-ltb, le-ltb, le-leb, lt-leb, eq-eqb, ne_eqb}
use Rattle.reads.specs.Range.{between}
use Rattle.reads.proofs.Tests.{either}
use Rattle.hexline.specs.Lines.{in_front, lines_of, digit_of, all_digits, good_line, is_empty, bad_line, bytes_from, hex_read}
use Rattle.hexline.specs.declared.HexRead.{HexRead}

-- the tests of a digit
pub ruleset tests = (lt-ltb, le-ltb, lt-leb, le-leb)

-- what `digit_of` answered, as its value
abbrev Told : ℕ → Option ℕ → Type 0
Told c r = MatchOption r (16 ≤ digit_of c) (λ d. (d ≡ digit_of c) × (d < 16))

pub none_told : (c : ℕ) (r : Option ℕ) → Told c r → is_some r ≡ false → 16 ≤ digit_of c
none_told c None told e = told
none_told c (Some d) told e = cc

pub some_told : (c : ℕ) (r : Option ℕ) → Told c r → is_some r ≡ true → digit_of c < 16
some_told c None told e = cc
some_told c (Some d) told e = omega (arith, told.0, told.1)

-- ---- a line of which some digits were read

-- a good line, of which d digits stand before these characters
abbrev good_after : ℕ → List ℕ → Bool
good_after d l = between 2 64 (d + length l) && eqb ((d + length l) % 2) 0 && all_digits l

-- the lines from number k on, with n bytes before them, where d digits of the first were read already
unfoldable pub line_on : List (List ℕ) → List ℕ → ℕ → ℕ → ℕ → HexRead
line_on [] rest k n d = cond (is_empty rest && eqb d 0) (HexRead.Bytes n) (bad_line k)
line_on (l ∷ ls) rest k n d =
    let more = n + (d + length l) / 2 in
    cond (good_after d l) (cond (leb more 49152) (bytes_from ls rest (k + 1) more) (bad_line k)) (bad_line k)

-- what t says, the rest of a text in which all of that stands before it
abbrev pub onward : List ℕ → ℕ → ℕ → ℕ → HexRead
onward t k n d = line_on (lines_of t).ended (lines_of t).rest k n d

no_digits : (ls : List (List ℕ)) (rest : List ℕ) (k n : ℕ) → line_on ls rest k n 0 ≡ bytes_from ls rest k n
unfolding line_on bytes_from good_line
no_digits [] rest k n = rw (and-true (is_empty rest))
no_digits (l ∷ ls) rest k n = rw (zero-add (length l))

pub next_character : (s : List ℕ) (i : ℕ) → i < length s → drop i s ≡ get_or s i 0 ∷ drop (i + 1) s
next_character s i h = rw (add-one, drop-cons s i 0)

-- a character in front of the first line
module _ (c k n d : ℕ) where
  abbrev fronted : List (List ℕ) → List ℕ → HexRead
  fronted ls rest = line_on (in_front c ls rest).ended (in_front c ls rest).rest k n d

  front_strange : 16 ≤ digit_of c → (ls : List (List ℕ)) (rest : List ℕ) → fronted ls rest ≡ bad_line k
  unfolding line_on all_digits
  front_strange h [] rest = refl
  front_strange h (l ∷ ls) rest =
      rw (le-ltb (digit_of c) 16 h, and-false (between 2 64 (d + suc (length l)) && eqb ((d + suc (length l)) % 2) 0))

  front_long : 64 ≤ d → (ls : List (List ℕ)) (rest : List ℕ) → fronted ls rest ≡ bad_line k
  unfolding line_on
  front_long h [] rest = refl
  front_long h (l ∷ ls) rest = rw (lt-leb (d + suc (length l)) 64 (omega arith), and-false (leb 2 (d + suc (length l))))

  front_digit : digit_of c < 16 → (ls : List (List ℕ)) (rest : List ℕ) → fronted ls rest ≡ line_on ls rest k n (d + 1)
  unfolding line_on all_digits
  front_digit h [] rest = rw (ne_eqb (d + 1) 0 (λ e. omega (arith, e)), and-false (is_empty rest))
  front_digit h (l ∷ ls) rest =
      let e : d + suc (length l) ≡ d + 1 + length l = omega arith in
      rw (lt-ltb (digit_of c) 16 h, e)

-- where the reading of a text stands, at place i: in the line of this number, after n bytes and d digits of the line
pub record Reading (s : List ℕ) (line n d i : ℕ) : Type 0 where
  pub inside : i ≤ length s
  pub lines : line ≤ n + 1
  pub bytes : n ≤ 49152
  pub digits : d ≤ 64
  pub says : onward (drop i s) line n d ≡ hex_read s

pub first_line : (s : List ℕ) → Reading s 1 0 0 0
unfolding hex_read
first_line s =
    record { inside = omega arith; lines = omega arith; bytes = omega arith; digits = omega arith; says = no_digits (lines_of s).ended (lines_of s).rest 1 0 }

module _ (s : List ℕ) (line n d i : ℕ) (now : Reading s line n d i) where
  module _ (h : i < length s) where
    here : hex_read s ≡ onward (get_or s i 0 ∷ drop (i + 1) s) line n d
    here = sym now.says ∙ ap (λ (t : List ℕ). onward t line n d) (next_character s i h)

    module _ (newline : get_or s i 0 ≡ 10) where
      at_newline : hex_read s
          ≡ cond (between 2 64 d && eqb (d % 2) 0)
          (cond (leb (n + d / 2) 49152) (onward (drop (i + 1) s) (line + 1) (n + d / 2) 0) (bad_line line)) (bad_line line)
      unfolding lines_of line_on all_digits
      at_newline =
          let later = lines_of (drop (i + 1) s) in
          here
          ∙ rw (
            eq-eqb (get_or s i 0) 10 newline,
            add-zero d,
            and-true (between 2 64 d && eqb (d % 2) 0),
            no_digits later.ended later.rest (line + 1) (n + d / 2),
          )

      -- "2 to 64 [...] digits"
      pub too_short : (r : HexRead) → d < 2 → r ≡ bad_line line → r ≡ hex_read s
      too_short r l is = is ∙ sym (at_newline ∙ rw (lt-leb 2 d l))

      -- "even in number"
      pub odd : (r : HexRead) → d % 2 ≡ 1 → r ≡ bad_line line → r ≡ hex_read s
      odd r o is = is ∙ sym (at_newline ∙ rw (ne_eqb (d % 2) 0 (λ z. omega (arith, z, o)), and-false (between 2 64 d)))

      pub too_many : (r : HexRead) → 49152 < n + d / 2 → r ≡ bad_line line → r ≡ hex_read s
      too_many r m is =
          is
          ∙ sym (at_newline ∙ rw (lt-leb (n + d / 2) 49152 m)
          (either (λ (x : HexRead). x ≡ bad_line line) (between 2 64 d && eqb (d % 2) 0) refl refl))

      pub next_line : 2 ≤ d → (d % 2 ≡ 1 → ⊥) → n + d / 2 ≤ 49152 → Reading s (line + 1) (n + d / 2) 0 (i + 1)
      next_line two even m =
          let z : d % 2 ≡ 0 = omega (arith, even) in
          record {
            inside = omega arith;
            lines = omega arith;
            bytes = m;
            digits = omega arith;
            says = sym (at_newline ∙ rw (le-leb 2 d two, le-leb d 64 now.digits, eq-eqb (d % 2) 0 z, le-leb (n + d / 2) 49152 m));
          }

    module _ (other : get_or s i 0 ≡ 10 → ⊥) where
      elsewhere : let later = lines_of (drop (i + 1) s) in hex_read s ≡ fronted (get_or s i 0) line n d later.ended later.rest
      unfolding lines_of
      elsewhere = here ∙ rw (ne_eqb (get_or s i 0) 10 other)

      pub too_long : (r : HexRead) → 64 ≤ d → r ≡ bad_line line → r ≡ hex_read s
      too_long r g is =
          let later = lines_of (drop (i + 1) s) in
          is ∙ sym (elsewhere ∙ front_long (get_or s i 0) line n d g later.ended later.rest)

      -- "upper-case hexadecimal digits"
      pub no_digit : (r : HexRead) → 16 ≤ digit_of (get_or s i 0) → r ≡ bad_line line → r ≡ hex_read s
      no_digit r g is =
          let later = lines_of (drop (i + 1) s) in
          is ∙ sym (elsewhere ∙ front_strange (get_or s i 0) line n d g later.ended later.rest)

      pub next_digit : digit_of (get_or s i 0) < 16 → d < 64 → Reading s line n (d + 1) (i + 1)
      next_digit g few =
          let later = lines_of (drop (i + 1) s) in
          record {
            inside = omega arith;
            lines = now.lines;
            bytes = now.bytes;
            digits = omega arith;
            says = sym (elsewhere ∙ front_digit (get_or s i 0) line n d g later.ended later.rest);
          }

  -- "each ended by a newline": the text's end
  module _ (h : length s ≤ i) where
    pub whole : d ≡ 0 → HexRead.Bytes n ≡ hex_read s
    unfolding lines_of line_on
    whole e = (rw (drop_of_length-le s h, e)) ∙ now.says

    pub unended : (r : HexRead) → (d ≡ 0 → ⊥) → r ≡ bad_line line → r ≡ hex_read s
    unfolding lines_of line_on
    unended r e is = is ∙ (rw (drop_of_length-le s h, ne_eqb d 0 e)) ∙ now.says

pub ruleset turns = (none_told, some_told, first_line, too_short, odd, too_many, next_line, no_digit, too_long, next_digit, whole, unended)

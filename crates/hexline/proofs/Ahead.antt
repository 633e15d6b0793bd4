-- What stands ahead in lines whose digits come in pairs: a newline, or two digits, which are the next byte.
use Prim.Native.Nat.{ℕ, ◌+◌, ◌*◌, ◌%◌, ◌≤◌, ◌<◌}
use native.Mathlib.Nat.{zero-add}
use native.Mathlib.Numerals.{add-one}
use native.Mathlib.Omega.{arith}
use mathlib.Core.Path.{◌≡◌, refl, sym, ap, ◌∙◌}
use mathlib.Core.Bool.{true, false, ◌&&◌}
use mathlib.Core.List.{List, [], ◌∷◌, ◌++◌}
use lib.ListN.{length, drop, get_or, set, length-set, drop_of_length-le}
use lib.Seq.{sets, sets-eq}
use lib.Dec.{ltb, eqb}
use borrow.Author.Tests.{ltb-true, eq-eqb, eqb-true, ne_eqb}
use Rattle.std.specs.Prelude.{Option, Some, None}
use Rattle.reads.proofs.Tests.{split, both}
use Rattle.hexline.specs.Lines.{Lines, in_front, lines_of, digit_of, all_digits, pairs, all_pairs, hex_bytes, hex_read}
use Rattle.hexline.specs.Fill.{hex_leaves}
use Rattle.hexline.specs.declared.HexRead.{HexRead}
use Rattle.hexline.proofs.Scan.{next_character}
use Rattle.hexline.proofs.Read.{AllGood, whole_text_lem}

-- lines of digits, even in number: what is left of good lines, also within one
abbrev InPairs : List (List ℕ) → Type 0
InPairs [] = Unit {0}
InPairs (l ∷ ls) = (length l % 2 ≡ 0) × (all_digits l ≡ true) × InPairs ls

good_pairs : (ls : List (List ℕ)) → AllGood ls → InPairs ls
good_pairs [] g = tt
good_pairs (l ∷ ls) g = (g.0.even, g.0.digits, good_pairs ls g.1)

-- a text of such lines, all ended
pub record Paired (t : List ℕ) : Type 0 where
  pub lines : InPairs (lines_of t).ended
  pub ended : (lines_of t).rest ≡ []

-- t begins with the digits a and b of a byte, and goes on with rest
pub record Pair (t : List ℕ) (a b : ℕ) (rest : List ℕ) : Type 0 where
  pub high : digit_of a < 16
  pub low : digit_of b < 16
  pub byte : hex_bytes t ≡ (digit_of a * 16 + digit_of b) ∷ hex_bytes rest
  pub later : Paired rest

-- two characters in front of lines
module _ (a b : ℕ) where
  abbrev two : List (List ℕ) → List ℕ → Lines
  two ls rest = let one = in_front b ls rest in in_front a one.ended one.rest

  two_pairs : (ls : List (List ℕ)) (rest : List ℕ) → InPairs (two ls rest).ended → (two ls rest).rest ≡ []
      → (digit_of a < 16) × (digit_of b < 16) × (all_pairs (two ls rest).ended ≡ (digit_of a * 16 + digit_of b) ∷ all_pairs ls)
      × InPairs ls × (rest ≡ [])
  unfolding all_digits all_pairs pairs
  two_pairs [] rest p e = absurd (omega (arith, ap length e))
  two_pairs (l ∷ ls) rest p e =
      let x = both (ltb (digit_of a) 16) (ltb (digit_of b) 16 && all_digits l) p.1 in
      let y = both (ltb (digit_of b) 16) (all_digits l) x.1 in
      (ltb-true (digit_of a) 16 x.0, ltb-true (digit_of b) 16 y.0, refl, (omega (arith, p.0), y.1, p.2), e)

pair_ahead : (a : ℕ) (t : List ℕ) → (a ≡ 10 → ⊥) → Paired (a ∷ t) → (0 < length t) × Pair (a ∷ t) a (get_or t 0 0) (drop 1 t)
unfolding lines_of hex_bytes
pair_ahead a [] h p = absurd (omega (arith, ap length (rw (ne_eqb a 10 h) at p.ended)))
pair_ahead a (b ∷ cs) h p =
    let f = ne_eqb a 10 h in
    split (eqb b 10)
    (λ t. absurd (omega (arith, (rw (f, t) at p.lines).0)))
    (λ t. let x = two_pairs a b (lines_of cs).ended (lines_of cs).rest (rw (f, t) at p.lines) (rw (f, t) at p.ended) in
    (omega arith, record { high = x.0; low = x.1; byte = rw (f, t) x.2; later = record { lines = x.3; ended = x.4 } }))

-- where the filling of a buffer stands, with `at` bytes put: what is left of the text puts the rest
pub record Filling (s old new : List ℕ) (at : ℕ) (t : List ℕ) : Type 0 where
  pub kept : length new ≡ length old
  pub room : at + length (hex_bytes t) ≤ length old
  pub ahead : Paired t
  pub puts : sets new at (hex_bytes t) ≡ sets old 0 (hex_bytes s)

sets_front : (l vs : List ℕ) → length vs ≤ length l → sets l 0 vs ≡ vs ++ drop (length vs) l
sets_front l vs h = sets-eq vs l 0 (rw (zero-add (length vs)) h) ∙ rw (zero-add (length vs))

module _ (s old : List ℕ) (read : hex_read s ≡ HexRead.Bytes (length (hex_bytes s))) (room : length (hex_bytes s) ≤ length old) where
  pub filling_first : Filling s old old 0 s
  filling_first =
      let w = whole_text_lem s (length (hex_bytes s)) read in
      record { kept = refl; room = omega arith; ahead = record { lines = good_pairs (lines_of s).ended w.good; ended = w.ended }; puts = refl }

  pub filling_done : (new : List ℕ) (at : ℕ) → Filling s old new at [] → new ≡ hex_leaves s (hex_read s) old
  unfolding lines_of hex_bytes all_pairs
  filling_done new at now = rw read (now.puts ∙ sets_front old (hex_bytes s) room)

-- the next character of what is left is a newline, or the first digit of a byte
module _ (s old new : List ℕ) (at a : ℕ) (t : List ℕ) (now : Filling s old new at (a ∷ t)) where
  newline_passed : a ≡ 10 → Filling s old new at t
  unfolding lines_of hex_bytes all_pairs pairs
  newline_passed e =
      let f : Filling s old new at (10 ∷ t) = rw e at now in
      record { kept = f.kept; room = f.room; ahead = record { lines = f.ahead.lines.2; ended = f.ahead.ended }; puts = f.puts }

  module _ (other : a ≡ 10 → ⊥) where
    pair : (0 < length t) × Pair (a ∷ t) a (get_or t 0 0) (drop 1 t)
    pair = pair_ahead a t other now.ahead

    byte_inside : at < length new
    byte_inside = omega (arith, ap length pair.1.byte, now.room, now.kept)

    byte_passed : Filling s old (set new at (digit_of a * 16 + digit_of (get_or t 0 0))) (at + 1) (drop 1 t)
    byte_passed =
        record {
          kept = rw length-set now.kept;
          room = omega (arith, ap length pair.1.byte, now.room);
          ahead = pair.1.later;
          puts = rw (add-one at) (rw pair.1.byte at now.puts);
        }

digit_other : (c : ℕ) → digit_of c < 16 → c ≡ 10 → ⊥
unfolding digit_of
digit_other c h e = let z : digit_of 10 < 16 = rw e at h in absurd (omega (arith, z))

-- a byte's first digit, which was read and not yet put, with the character that it is the value of
pub record First (s old new : List ℕ) (at h a : ℕ) (t : List ℕ) : Type 0 where
  pub other : a ≡ 10 → ⊥
  pub is : h ≡ digit_of a
  pub filling : Filling s old new at (a ∷ t)

-- where the filling stands between two characters, by the first digit of the next byte if it was read
abbrev pub Between : List ℕ → List ℕ → List ℕ → ℕ → Option ℕ → List ℕ → Type 0
Between s old new at None t = Filling s old new at t
Between s old new at (Some h) t = (a : ℕ) × First s old new at h a t

module _ (s old new : List ℕ) (at : ℕ) where
  -- at the end no digit is left over
  pub between_done : (high : Option ℕ) (i : ℕ) → Between s old new at high (drop i s) → length s ≤ i → Filling s old new at []
  between_done None i now h = rw (drop_of_length-le s h) at now
  between_done (Some x) i (a, f) h =
      let g : Filling s old new at (a ∷ []) = rw (drop_of_length-le s h) at f.filling in
      absurd (omega (arith, (pair s old new at a [] g f.other).0))

  module _ (i : ℕ) (h : i < length s) where
    -- what is no digit is a newline
    pub newline_next : (high : Option ℕ) → Between s old new at high (drop i s) → 16 ≤ digit_of (get_or s i 0) → Between s old new at high (drop (i + 1) s)
    newline_next None now w =
        let f : Filling s old new at (get_or s i 0 ∷ drop (i + 1) s) = rw (next_character s i h) at now in
        split (eqb (get_or s i 0) 10)
        (λ t. newline_passed s old new at (get_or s i 0) (drop (i + 1) s) f (eqb-true (get_or s i 0) 10 t))
        (λ t. absurd (omega (arith, w, (pair s old new at (get_or s i 0) (drop (i + 1) s) f (λ e. not_newline t e)).1.high)))
      where
        not_newline : eqb (get_or s i 0) 10 ≡ false → get_or s i 0 ≡ 10 → ⊥
        not_newline t e = let z : true ≡ false = sym (eq-eqb (get_or s i 0) 10 e) ∙ t in cc
    newline_next (Some x) (a, f) w =
        let g : Filling s old new at (a ∷ get_or s i 0 ∷ drop (i + 1) s) = rw (next_character s i h) at f.filling in
        absurd (omega (arith, w, (pair s old new at a (get_or s i 0 ∷ drop (i + 1) s) g f.other).1.low))

    module _ (high : Option ℕ) (now : Between s old new at high (drop i s)) (digit : ℕ) (digit-is : digit ≡ digit_of (get_or s i 0)) where
      pub first_next : high ≡ None → digit < 16 → Between s old new at (Some digit) (drop (i + 1) s)
      first_next e small =
          let f : Filling s old new at (get_or s i 0 ∷ drop (i + 1) s) = rw (e, next_character s i h) at now in
          (get_or s i 0, record { other = digit_other (get_or s i 0) (omega (arith, small, digit-is)); is = digit-is; filling = f })

      module _ (first : ℕ) (e : high ≡ Some first) where
        read : (a : ℕ) × First s old new at first a (drop i s)
        read = rw e at now

        whole : Filling s old new at (read.0 ∷ get_or s i 0 ∷ drop (i + 1) s)
        whole = rw (next_character s i h) at read.1.filling

        pub first_small : first < 16
        first_small = omega (arith, read.1.is, (pair s old new at read.0 (get_or s i 0 ∷ drop (i + 1) s) whole read.1.other).1.high)

        pub second_inside : at < length new
        second_inside = byte_inside s old new at read.0 (get_or s i 0 ∷ drop (i + 1) s) whole read.1.other

        pub second_next : Between s old (set new at (first * 16 + digit)) (at + 1) None (drop (i + 1) s)
        second_next =
            let byte : first * 16 + digit ≡ digit_of read.0 * 16 + digit_of (get_or s i 0) = omega (arith, read.1.is, digit-is) in
            rw byte (byte_passed s old new at read.0 (get_or s i 0 ∷ drop (i + 1) s) whole read.1.other)

-- what the loop that puts the bytes needs
pub ruleset turns = (filling_done, between_done, newline_next, first_small, second_inside)

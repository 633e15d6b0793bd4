-- What a buffer holds after the bytes were put into it: for the code that puts them, and for a caller that lends the first n of them on.
use Prim.Native.Nat.{ℕ, ◌≤◌}
use native.Mathlib.Omega.{arith}
use mathlib.Core.Path.{◌≡◌, sym, ap, ◌∙◌}
use mathlib.Core.List.{List, ◌++◌}
use lib.ListN.{length, take, drop, length-append}
use lib.Seq.{take_at}
use lib.Dec.{ltb}
use borrow.Author.Tests.{lt-ltb, le-ltb, ltb-false}
use Rattle.reads.proofs.Tests.{never, split}
use Rattle.hexline.specs.Lines.{hex_read, hex_bytes}
use Rattle.hexline.specs.Fill.{fitted, hex_into, hex_leaves}
use Rattle.hexline.specs.declared.HexRead.{HexRead}
use Rattle.hexline.proofs.Read.{count_of, is_bytes, either_answer, bytes_count, bytes_most}

-- n bytes at the start of the buffer `new`, which are the text's
pub record Filled (text new : List ℕ) (n : ℕ) : Type 0 where
  pub read : hex_read text ≡ HexRead.Bytes n
  pub most : n ≤ 49152
  pub within : n ≤ length new
  pub counted : n ≡ length (take n new)
  pub bytes : take n new ≡ hex_bytes text

-- bytes that found room were read, and are no more than the room
fitted_bytes : (room n : ℕ) (r : HexRead) → fitted room r ≡ HexRead.Bytes n → (r ≡ HexRead.Bytes n) × (n ≤ room)
fitted_bytes room n (HexRead.Bytes m) e =
    split (ltb room m)
    (λ t. never (ap is_bytes (rw t at e)))
    (λ t. let same : m ≡ n = ap count_of (rw t at e) in (ap HexRead.Bytes same, omega (arith, same, ltb-false room m t)))
fitted_bytes room n (HexRead.Refused q) e = never (ap is_bytes e)

pub filled : (text old new : List ℕ) (r : HexRead) (n : ℕ)
    → r ≡ hex_into text (length old) → new ≡ hex_leaves text r old → r ≡ HexRead.Bytes n → Filled text new n
unfolding hex_into
filled text old new r n answer buffer e =
    let into = fitted_bytes (length old) n (hex_read text) (sym answer ∙ e) in
    let count = bytes_count text n into.0 in
    let whole : new ≡ hex_bytes text ++ drop n old = rw e at buffer in
    let start : take n new ≡ hex_bytes text = rw whole (take_at (hex_bytes text) (drop n old) n count) in
    record {
      read = into.0;
      most = bytes_most text n into.0;
      within = rw whole (omega (arith, count, length-append (hex_bytes text) (drop n old)));
      counted = sym (ap length start ∙ count);
      bytes = start;
    }

-- a buffer of 49,152 bytes has room for every text
pub room_enough : (text : List ℕ) (room : ℕ) → 49152 ≤ room → hex_into text room ≡ hex_read text
unfolding hex_into
room_enough text room h =
    either_answer (hex_read text)
    (λ n e. rw (e, le-ltb room n (omega (arith, h, bytes_most text n e))))
    (λ q e. rw e)

-- what putting the bytes asks for, of a text that was read
module _ (text : List ℕ) (read : HexRead) (read_is : read ≡ hex_read text) (n : ℕ) (e : read ≡ HexRead.Bytes n) where
  pub fills_read : hex_read text ≡ HexRead.Bytes (length (hex_bytes text))
  fills_read = let r = sym read_is ∙ e in r ∙ ap HexRead.Bytes (sym (bytes_count text n r))

  pub fills_room : (room : ℕ) → n ≤ room → length (hex_bytes text) ≤ room
  fills_room room h = omega (arith, bytes_count text n (sym read_is ∙ e))

pub ruleset answers = (fills_read, fills_room, lt-ltb, le-ltb)

-- The buffer has room for every text, so only a text that is none of bytes is refused; what its bytes say is what the dump answers.
use native.Mathlib.Omega.{arith}
use Prim.Native.Nat.{ℕ, ◌≤◌}
use mathlib.Core.Path.{◌≡◌, refl}
use mathlib.Core.List.{List}
use lib.ListN.{length, take}
use Rattle.reads.specs.declared.Refusal.{Refusal}
use Rattle.reads.proofs.Numbers.{at_most}
use Rattle.hexline.specs.Fill.{hex_into, hex_leaves}
use Rattle.hexline.specs.declared.HexRead.{HexRead}
use Rattle.hexline.proofs.Filled.{Filled, filled, room_enough}
use Rattle.hexline.proofs.Refusals.{fill_bytes_refusals}
use Rattle.vet.specs.Vet.{vetted}
use Rattle.frames.specs.Dump.{dump_number, vetted_number}

pub few_bytes : (text old : List ℕ) (n : ℕ) → HexRead.Bytes n ≡ hex_into text (length old) → n ≤ 49152
few_bytes text old n is = (filled text old (hex_leaves text (HexRead.Bytes n) old) (HexRead.Bytes n) n is refl refl).most

module _ (text old new : List ℕ) (n : ℕ) (is : HexRead.Bytes n ≡ hex_into text (length old)) (left : new ≡ hex_leaves text (HexRead.Bytes n) old) where
  put : Filled text new n
  put = filled text old new (HexRead.Bytes n) n is left refl

  pub few_taken : length (take n new) ≤ 49152
  few_taken = omega (arith, put.most, put.counted)

  pub font_number : (k : ℕ) → k ≡ vetted_number (vetted (take n new)) → k ≡ dump_number text
  unfolding dump_number
  font_number k e = rw (put.read, ← put.bytes) e

module _ (text : List ℕ) (room : ℕ) (bad : Refusal) (is : HexRead.Refused bad ≡ hex_into text room) where
  pub text_number : 49152 ≤ room → bad.number ≡ dump_number text
  unfolding dump_number
  text_number enough = rw (← room_enough text room enough, ← is)

  -- its number has two digits
  pub text_refused : bad.number ≤ 99
  text_refused = at_most 99 refl (rw (← is) at (fill_bytes_refusals text room))

pub ruleset text_read = (few_taken, font_number, text_number, text_refused)

-- The numbers that lines of digits are refused with: 20, and 15 for a buffer that is too short.
use Prim.Native.Nat.{ℕ, ◌+◌, ◌/◌}
use mathlib.Core.Path.{refl}
use mathlib.Core.List.{List, [], ◌∷◌}
use lib.ListN.{length}
use lib.Dec.{ltb, leb}
use Rattle.reads.specs.Said.{NumberedBy}
use Rattle.reads.proofs.Numbers.{has_values, has_number, whichever, wider}
use Rattle.hexline.specs.Lines.{lines_of, good_line, is_empty, bytes_from, hex_read, said_hex}
use Rattle.hexline.specs.Fill.{fitted, hex_into}
use Rattle.hexline.specs.declared.HexRead.{HexRead}

lines_numbered : (ls : List (List ℕ)) (rest : List ℕ) (k n : ℕ) → NumberedBy (20 ∷ []) (said_hex (bytes_from ls rest k n))
unfolding bytes_from
lines_numbered [] rest k n = whichever said_hex (is_empty rest) has_values (has_number refl)
lines_numbered (l ∷ ls) rest k n =
    let m = n + length l / 2 in
    whichever said_hex (good_line l) (whichever said_hex (leb m 49152) (lines_numbered ls rest (k + 1) m) (has_number refl)) (has_number refl)

pub hex_read_refusals : (text : List ℕ) → NumberedBy (20 ∷ []) (said_hex (hex_read text))
unfolding hex_read
hex_read_refusals text = lines_numbered (lines_of text).ended (lines_of text).rest 1 0

pub fill_bytes_refusals : (text : List ℕ) (room : ℕ) → NumberedBy (20 ∷ 15 ∷ []) (said_hex (hex_into text room))
unfolding hex_into
fill_bytes_refusals text room = by (hex_read text) (hex_read_refusals text) where
  by : (x : HexRead) → NumberedBy (20 ∷ []) (said_hex x) → NumberedBy (20 ∷ 15 ∷ []) (said_hex (fitted room x))
  by (HexRead.Bytes n) h = whichever said_hex (ltb room n) (has_number refl) has_values
  by (HexRead.Refused r) h = wider refl h

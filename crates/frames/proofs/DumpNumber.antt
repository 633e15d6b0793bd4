-- Where the dump refuses with a number, the line with that number is all that it prints.
use mathlib.Core.Path.{◌≡◌, refl}
use mathlib.Core.List.{List}
use Prim.Native.Nat.{ℕ}
use Rattle.hexline.specs.Lines.{hex_read, hex_bytes}
use Rattle.hexline.specs.declared.HexRead.{HexRead}
use Rattle.vet.specs.Vet.{vetted}
use Rattle.vet.specs.declared.Vetted.{Vetted}
use Rattle.frames.specs.Put.{refused_line}
use Rattle.frames.specs.Dump.{dump_vetted, dump_read, dumped, vetted_number, read_number, dump_number}

vetted_line : (s : List ℕ) (v : Vetted) → (vetted_number v ≡ 0 → ⊥) → dump_vetted s v ≡ refused_line (vetted_number v)
vetted_line s (Vetted.Passed rec) z = absurd (z refl)
vetted_line s (Vetted.Refused r) z = refl

read_line : (s : List ℕ) (x : HexRead) → (read_number s x ≡ 0 → ⊥) → dump_read s x ≡ refused_line (read_number s x)
read_line s (HexRead.Bytes n) z = vetted_line s (vetted s) z
read_line s (HexRead.Refused r) z = refl

pub refused_line_lem : (text : List ℕ) → (dump_number text ≡ 0 → ⊥) → dumped text ≡ refused_line (dump_number text)
unfolding dumped dump_number
refused_line_lem text z = read_line (hex_bytes text) (hex_read text) z

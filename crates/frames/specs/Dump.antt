-- What the dump prints. From document 01: "It vets and prints one frame a line for each code with a glyph [...]. Or the single line
-- `refused NN`, two decimal digits, 20 being tested before all else."
use Rattle.std.specs.Prelude.{ℕ, List}
use Rattle.hexline.specs.Lines.{hex_read, hex_bytes}
use Rattle.hexline.specs.declared.HexRead.{HexRead}
use Rattle.vet.specs.Vet.{vetted}
use Rattle.vet.specs.declared.Vetted.{Vetted}
use Rattle.frames.specs.Frames.{frames_from}
use Rattle.frames.specs.Put.{refused_line}

abbrev pub dump_vetted : List ℕ → Vetted → List ℕ
dump_vetted s (Vetted.Passed rec) = frames_from s rec 65536 0
dump_vetted s (Vetted.Refused r) = refused_line r.number

abbrev pub dump_read : List ℕ → HexRead → List ℕ
dump_read s (HexRead.Bytes n) = dump_vetted s (vetted s)
dump_read s (HexRead.Refused r) = refused_line r.number

-- what is printed for this input
unfoldable pub dumped : List ℕ → List ℕ
dumped text = dump_read (hex_bytes text) (hex_read text)

-- the number that the dump refuses with; 0 where it prints frames
abbrev pub vetted_number : Vetted → ℕ
vetted_number (Vetted.Passed rec) = 0
vetted_number (Vetted.Refused r) = r.number

abbrev pub read_number : List ℕ → HexRead → ℕ
read_number s (HexRead.Bytes n) = vetted_number (vetted s)
read_number s (HexRead.Refused r) = r.number

unfoldable pub dump_number : List ℕ → ℕ
dump_number text = read_number (hex_bytes text) (hex_read text)

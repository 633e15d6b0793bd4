-- The whole dump asks only the codes of the table's range, in vetting and in printing: so it can be computed for a font at hand.
use mathlib.Core.Path.{◌≡◌, refl}
use mathlib.Core.List.{List}
use Prim.Native.Nat.{ℕ, ◌-◌}
use Rattle.tables.specs.declared.Record.{Record}
use Rattle.load.specs.Load.{loaded_strictly}
use Rattle.load.specs.declared.Loaded.{Loaded}
use Rattle.lookup.specs.CodeRange.{code_range}
use Rattle.hexline.specs.Lines.{hex_read, hex_bytes}
use Rattle.hexline.specs.declared.HexRead.{HexRead}
use Rattle.vet.specs.Vet.{vet_codes, vet_record, vet_loaded, vetted}
use Rattle.vet.specs.declared.Vetted.{Vetted}
use Rattle.vet.proofs.CodesInRange.{codes_in_range}
use Rattle.frames.specs.Frames.{frames_from}
use Rattle.frames.specs.Put.{refused_line}
use Rattle.frames.specs.Dump.{dump_vetted, dump_read, dumped}
use Rattle.frames.proofs.FramesRange.{frames_range}

abbrev low : Record → ℕ
low rec = (code_range rec.codes).low.0

abbrev codes : Record → ℕ
codes rec = (code_range rec.codes).end.0 - (code_range rec.codes).low.0

-- vetting, printing and the whole dump, of the range
abbrev pub vet_in_range : List ℕ → Record → Vetted
vet_in_range s rec = vet_codes s rec (codes rec) (low rec)

abbrev pub print_in_range : List ℕ → Vetted → List ℕ
print_in_range s (Vetted.Passed rec) = frames_from s rec (codes rec) (low rec)
print_in_range s (Vetted.Refused r) = refused_line r.number

abbrev pub loaded_in_range : List ℕ → Loaded → List ℕ
loaded_in_range s (Loaded.Font rec) = print_in_range s (vet_in_range s rec)
loaded_in_range s (Loaded.Refused r) = refused_line r.number

abbrev pub read_in_range : List ℕ → HexRead → List ℕ
read_in_range s (HexRead.Bytes n) = loaded_in_range s (loaded_strictly s)
read_in_range s (HexRead.Refused r) = refused_line r.number

module _ (s : List ℕ) where
  pub vets : (rec : Record) → vet_record s rec ≡ vet_in_range s rec
  unfolding vet_record
  vets rec = rw (codes_in_range s rec) refl

  prints : (v : Vetted) → dump_vetted s v ≡ print_in_range s v
  prints (Vetted.Passed rec) = frames_range s rec
  prints (Vetted.Refused r) = refl

  loads : (x : Loaded) → dump_vetted s (vet_loaded s x) ≡ loaded_in_range s x
  loads (Loaded.Font rec) = rw (vets rec) (prints (vet_in_range s rec))
  loads (Loaded.Refused r) = refl

  reads : (x : HexRead) → dump_read s x ≡ read_in_range s x
  unfolding vetted
  reads (HexRead.Bytes n) = loads (loaded_strictly s)
  reads (HexRead.Refused r) = refl

pub dump_in_range : (text : List ℕ) → dumped text ≡ read_in_range (hex_bytes text) (hex_read text)
unfolding dumped
dump_in_range text = reads (hex_bytes text) (hex_read text)

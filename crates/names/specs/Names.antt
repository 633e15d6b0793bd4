-- The name of a glyph. From document 01: "A name is the part of the font's own bytes up to its zero byte"; refusal 17 "glyph at or
-- above the names count"; "names and properties: 6, 17, 18".
use Rattle.std.specs.Prelude.{ℕ, ◌+◌, ◌*◌, cond, List, [], ◌∷◌, leb, pos}
use Rattle.reads.specs.Num.{u32_at}
use Rattle.reads.specs.Said.{Said, refusal, says, refuses}
use Rattle.tables.specs.Fits.{tested}
use Rattle.tables.specs.declared.GlyphNameData.{GlyphNameData}
use Rattle.tables.specs.declared.Record.{Record}
use Rattle.names.specs.Strings.{string_at, part_of, part_at}
use Rattle.names.specs.declared.Named.{Named}
use Rattle.names.specs.declared.Span.{Span}

-- glyph g's name, or 17, 18; 6 where the string data lies outside the bytes
unfoldable pub name_of : List ℕ → GlyphNameData → ℕ → Named
name_of s n g =
    cond (leb n.count g) (Named.Refused (refusal 17 0))
    (string_at s n.strings n.size (u32_at n.big s (n.offsets + 4 * g)))

-- `get_name`: 6, 17, 18
unfoldable pub get_name : List ℕ → Record → ℕ → Named
get_name s rec g = tested Named.Refused s rec (name_of s rec.names g)

-- a name's span; on a refusal the empty one at the first byte
abbrev pub span_of : Named → Span
span_of (Named.Name p) = p
span_of (Named.Refused r) = record { start = 0; len = 0 }

-- the name itself, "the part of the font's own bytes", and where it stands among them
abbrev pub name_bytes : List ℕ → Named → List ℕ
name_bytes s n = part_of s (span_of n)

abbrev pub name_at : List ℕ → Named → ℕ
name_at s n = part_at s (span_of n)

abbrev pub said_named : Named → Said
said_named (Named.Name p) = says (pos p.start ∷ pos p.len ∷ [])
said_named (Named.Refused r) = refuses r

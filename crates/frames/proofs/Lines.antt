-- A frame's line: the runs that it is made of, how much room it takes, and what is answered where it is short of room.
use Prim.Native.Nat.{ℕ, ◌+◌, ◌*◌, ◌/◌, ◌≤◌, ◌<◌, max}
use mathlib.Core.Path.{◌≡◌, ◌∙◌}
use mathlib.Core.Bool.{true}
use mathlib.Core.List.{List, [], ◌∷◌, ◌++◌}
use native.Mathlib.Omega.{arith}
use lib.ListN.{length}
use borrow.Author.Tests.{lt-ltb, le-ltb}
use Rattle.reads.specs.Said.{refusal}
use Rattle.tables.specs.Fits.{record_fits}
use Rattle.tables.specs.declared.Record.{Record}
use Rattle.names.specs.Names.{name_of, get_name, name_bytes}
use Rattle.bitmaps.specs.Rows.{row_bytes}
use Rattle.place.specs.declared.GlyphInfo.{GlyphInfo}
use Rattle.frames.specs.Hex.{hex_four, field, ◌␣◌}
use Rattle.frames.specs.Frames.{glyph_rows, frame}
use Rattle.frames.specs.Put.{line_into}
use Rattle.frames.specs.Wrote.{Wrote}
use denote.MutBor.{MutBor}
use Rattle.frames.specs.declared.Printed.{Printed}
use Rattle.frames.proofs.Chain.{then, no_room, line_put}
use Rattle.frames.proofs.HexRuns.{length-field}
use Rattle.frames.proofs.FrameLength.{length-picture, length_frame, name_in}

-- ---- the eight fields, of a glyph with this name

-- how long the line is, and its two last fields
pub record Sizes (s : List ℕ) (rec : Record) (code : ℕ) (i : GlyphInfo) (name : List ℕ) : Type 0 where
  pub of_line : length (frame s rec code i) ≡ 32 + max 1 (2 * length name) + max 1 (2 * (i.height * row_bytes i.width))
  pub of_name : length (field name) ≡ max 1 (2 * length name)
  pub of_rows : length (field (glyph_rows s rec.bitmaps i)) ≡ max 1 (2 * (i.height * row_bytes i.width))

module _ (s : List ℕ) (rec : Record) (code : ℕ) (i : GlyphInfo) (name : List ℕ) (name-is : name ≡ name_bytes s (name_of s rec.names i.glyph.0)) where
  pub sizes : Sizes s rec code i name
  sizes = record {
    of_line = rw (← name-is) at (length_frame s rec i code);
    of_name = length-field name;
    of_rows = length-picture s rec.bitmaps i;
  }

  pub frame_wrote : (l m : MutBor (List ℕ)) (at next : ℕ)
      → Wrote l at
      (hex_four code ␣ hex_four i.glyph.0 ␣ hex_four i.width ␣ hex_four i.height ␣ hex_four i.pad_top ␣ hex_four i.pad_left
      ␣ field name ␣ field (glyph_rows s rec.bitmaps i) ++ (10 ∷ []))
      m next
      → Wrote l at (frame s rec code i) m next
  unfolding frame
  frame_wrote l m at next w = rw (← name-is) w

-- ---- the room for it

module _ (s : List ℕ) (rec : Record) (code : ℕ) (i : GlyphInfo) (name : List ℕ) (name-is : name ≡ name_bytes s (get_name s rec i.glyph.0))
    (fits : record_fits (length s) rec ≡ true) where
  pub line_named : name ≡ name_bytes s (name_of s rec.names i.glyph.0)
  line_named = name-is ∙ name_in s rec i fits

  pub name_long : (room : ℕ) → room / 2 < length name → Printed.Refused (refusal 15 0) ≡ line_into (frame s rec code i) room
  name_long room h = no_room (frame s rec code i) room (omega (arith, sizes s rec code i name line_named))

  module _ (size a b : ℕ) (size_is : size ≡ i.height * row_bytes i.width) (a-is : a ≡ max 1 (2 * length name)) (b-is : b ≡ max 1 (2 * size)) where
    line_size : length (frame s rec code i) ≡ 32 + (a + b)
    line_size = let e = (sizes s rec code i name line_named).of_line in rw (a-is, b-is, size_is) (omega (arith, e))

    pub line_long : (room : ℕ) → room < 32 + (a + b) → Printed.Refused (refusal 15 0) ≡ line_into (frame s rec code i) room
    line_long room h = no_room (frame s rec code i) room (omega (arith, line_size))

    pub line_room : (room : ℕ) → 32 + (a + b) ≤ room → length (frame s rec code i) ≤ room
    line_room room h = omega (arith, line_size)

    pub line_said : (l m : MutBor (List ℕ)) (at next n room : ℕ) → 32 + (a + b) ≤ room → at ≡ 0 → Wrote l at (frame s rec code i) m next → n ≡ next
        → Printed.Bytes n ≡ line_into (frame s rec code i) room
    line_said l m at next n room h start w is = line_put n (line_room room h) start w is

-- what the line of a refusal needs
pub ruleset refused = (no_room, line_put, then, lt-ltb, le-ltb)

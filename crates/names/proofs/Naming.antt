-- What a string, a glyph's name and its bytes are, by the tests that the code makes.
use Prim.Native.Nat.{ℕ, ◌+◌, ◌-◌, ◌*◌, ◌≤◌, ◌<◌, ◌^◌}
use mathlib.Core.Path.{◌≡◌, sym, ◌∙◌}
use mathlib.Core.Bool.{Bool, true, false}
use mathlib.Core.List.{List}
use native.Mathlib.Omega.{arith}
use lib.ListN.{length}
use mir.Syntax.{w64}
use mir.Val.{Fits}
use borrow.Author.Tests.{leb-true, le-leb, lt-leb, lt-ltb, le-ltb}
use Rattle.reads.specs.Num.{u32_at}
use Rattle.reads.specs.Said.{refusal}
use Rattle.reads.specs.declared.Refusal.{Refusal}
use Rattle.tables.specs.Fits.{inside}
use Rattle.tables.specs.declared.GlyphNameData.{GlyphNameData}
use Rattle.tables.specs.declared.Record.{Record}
use Rattle.names.specs.Names.{name_of, get_name, span_of, name_bytes, name_at}
use Rattle.names.specs.Strings.{zero_from, string_at, part_of, part_at, moved_by}
use Rattle.names.specs.declared.Named.{Named}
use Rattle.names.specs.declared.Span.{Span}
use Rattle.names.specs.declared.Zero.{Zero}

module _ (s : List ℕ) (strings size from : ℕ) (within : Bool) (within-is : within ≡ inside (length s) strings size) where
  pub string_6 : within ≡ false → Named.Refused (refusal 6 0) ≡ string_at s strings size from
  unfolding string_at
  string_6 e = rw (← within-is, e)

  module _ (e : within ≡ true) where
    room : strings + size ≤ length s
    room = leb-true (strings + size) (length s) (sym within-is ∙ e)

    pub string_beyond : size < from → Named.Refused (refusal 18 0) ≡ string_at s strings size from
    unfolding string_at
    string_beyond h = rw (← within-is, e, lt-ltb _ _ h)

    pub start_fits : from ≤ size → length s < 2 ^ 64 → Fits w64 (strings + from)
    start_fits h l = omega (arith, room)

    pub end_inside : from ≤ size → strings + from + (size - from) ≤ length s
    end_inside h = omega (arith, room)

    module _ (end : Zero) (h : from ≤ size) (end_is : end ≡ zero_from s (strings + from) (size - from) 0) where
      pub string_found : (len : ℕ) → end ≡ Zero.After len → Named.Name (record { start = strings + from; len = len }) ≡ string_at s strings size from
      unfolding string_at
      string_found len f = rw (← within-is, e, le-ltb _ _ h, ← end_is, f)

      pub string_endless : end ≡ Zero.Nothing → Named.Refused (refusal 18 0) ≡ string_at s strings size from
      unfolding string_at
      string_endless f = rw (← within-is, e, le-ltb _ _ h, ← end_is, f)

pub name_17 : (s : List ℕ) (n : GlyphNameData) (g : ℕ) → n.count ≤ g → Named.Refused (refusal 17 0) ≡ name_of s n g
unfolding name_of
name_17 s n g h = rw (le-leb _ _ h)

pub name_there : (s : List ℕ) (n : GlyphNameData) (g from : ℕ) (r : Named)
    → g < n.count → from ≡ u32_at n.big s (n.offsets + 4 * g) → r ≡ string_at s n.strings n.size from → r ≡ name_of s n g
unfolding name_of
name_there s n g from r h from_is is = rw (lt-leb _ _ h, ← from_is) is

-- the part of a name's span, or of the empty one
module _ (s : List ℕ) (rec : Record) (g : ℕ) (named : Named) (span : Span) (named-is : named ≡ get_name s rec g) (span-is : span_of named ≡ span) where
  name_span : span_of (get_name s rec g) ≡ span
  name_span = rw (← named-is) span-is

  pub name_part : (r : List ℕ) → r ≡ part_of s span → r ≡ name_bytes s (get_name s rec g)
  name_part r is = rw name_span is

  pub name_stands : (at here : ℕ × ℕ) → here ≡ moved_by at (part_at s span) → here ≡ moved_by at (name_at s (get_name s rec g))
  name_stands at here is = rw name_span is

pub span_found : (named : Named) (p : Span) → named ≡ Named.Name p → span_of named ≡ p
span_found named p e = rw e

pub span_empty : (named : Named) (r : Refusal) → named ≡ Named.Refused r → span_of named ≡ record { start = 0; len = 0 }
span_empty named r e = rw e

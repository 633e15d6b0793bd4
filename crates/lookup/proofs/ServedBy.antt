-- What a lookup in a mode answers, by the tests that the code makes on its way.
use Prim.Native.Nat.{ℕ}
use mathlib.Core.Path.{◌≡◌}
use mathlib.Core.Bool.{Bool, true, false}
use mathlib.Core.List.{List}
use lib.ListN.{length}
use Rattle.reads.specs.Said.{refusal}
use Rattle.reads.specs.declared.GlyphIndex.{GlyphIndex}
use Rattle.reads.specs.declared.Refusal.{Refusal}
use Rattle.tables.specs.Fits.{record_fits}
use Rattle.tables.specs.declared.EncodingData.{EncodingData}
use Rattle.tables.specs.declared.Record.{Record}
use Rattle.modes.specs.declared.Mode.{Mode}
use Rattle.lookup.specs.Lookup.{glyph_of}
use Rattle.lookup.specs.Served.{itself, the_default, stand_in, or_else, served, get_glyph}
use Rattle.lookup.specs.declared.Found.{Found}
use Rattle.lookup.specs.declared.Served.{Served}

module _ (s : List ℕ) (c : EncodingData) (mode : Mode) where
  pub none_stands_in : mode.default ≡ false → Served.Refused (refusal 9 0) ≡ stand_in s c mode
  unfolding stand_in
  none_stands_in off = rw off

  module _ (on : mode.default ≡ true) (found : Found) (found-is : found ≡ glyph_of s c c.default) where
    pub default_stands_in : (g : GlyphIndex) → found ≡ Found.Glyph g → Served.Glyph g (the_default c) ≡ stand_in s c mode
    unfolding stand_in
    default_stands_in g e = rw (on, ← found-is, e)

    pub default_lacks_too : (r : Refusal) → found ≡ Found.Refused r → Served.Refused r ≡ stand_in s c mode
    unfolding stand_in
    default_lacks_too r e = rw (on, ← found-is, e)

-- a code's own glyph, or the other
module _ (code : ℕ) (own : Found) (other : Served) where
  pub own_first : (g : GlyphIndex) (answer : Served) → own ≡ Found.Glyph g → answer ≡ Served.Glyph g (itself code) → answer ≡ or_else code own other
  own_first g answer e is = rw e is

  pub else_other : (r : Refusal) (answer : Served) → own ≡ Found.Refused r → answer ≡ other → answer ≡ or_else code own other
  else_other r answer e is = rw e is

-- the two steps are the lookup
pub served_in_steps : (s : List ℕ) (c : EncodingData) (mode : Mode) (code : ℕ) (own : Found) (answer other : Served)
    → own ≡ glyph_of s c code → answer ≡ or_else code own other → other ≡ stand_in s c mode → answer ≡ served s c mode code
unfolding served
served_in_steps s c mode code own answer other own_is is other-is = rw (← own_is, ← other-is) is

module _ (s : List ℕ) (rec : Record) (mode : Mode) (code : ℕ) (fits : Bool) (fits-is : fits ≡ record_fits (length s) rec) where
  pub glyph_fits : (r : Served) → fits ≡ true → r ≡ served s rec.codes mode code → r ≡ get_glyph s rec mode code
  unfolding get_glyph
  glyph_fits r e is = rw (← fits-is, e) is

  pub glyph_unfit : fits ≡ false → Served.Refused (refusal 6 0) ≡ get_glyph s rec mode code
  unfolding get_glyph
  glyph_unfit e = rw (← fits-is, e)

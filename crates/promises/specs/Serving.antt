-- Which glyph shows a character in a mode, in plain logic. From document 02: "plain stays as it is; in default mode a code without a glyph
-- takes the default code's glyph if that has one"; "9 in default mode only when the default code has no glyph either".
use Rattle.std.specs.Prelude.{ℕ, ◌≡◌, true, List, [], ◌∷◌, ◌⊎◌}
use Rattle.tables.specs.declared.Record.{Record}
use Rattle.modes.specs.declared.Mode.{Mode}
use Rattle.lookup.specs.Served.{itself, the_default}
use Rattle.lookup.specs.declared.Supplier.{Supplier}
use Rattle.utf8.specs.Decode.{Char}
use Rattle.promises.specs.Passing.{HasGlyph}

-- this code has no glyph
abbrev pub HasNone : List ℕ → Record → ℕ → Type 0
HasNone s rec code = (g : ℕ) → HasGlyph s rec code g → ⊥

module _ (s : List ℕ) (rec : Record) (mode : Mode) (code : ℕ) where
  -- glyph g is the code's own
  pub record ShownByOwn (g : ℕ) (by : Supplier) : Type 0 where
    pub has : HasGlyph s rec code g
    pub is : by ≡ itself code

  -- "a code without a glyph takes the default code's", and that is g
  pub record ShownByDefault (g : ℕ) (by : Supplier) : Type 0 where
    pub wanted : mode.default ≡ true
    pub has_none : HasNone s rec code
    pub default_has : HasGlyph s rec rec.codes.default g
    pub is : by ≡ the_default rec.codes

  -- glyph g shows the code, and was supplied so
  abbrev pub ShownBy : ℕ → Supplier → Type 0
  ShownBy g by = ShownByOwn g by ⊎ ShownByDefault g by

  -- no glyph does
  pub record Unshown : Type 0 where
    pub has_none : HasNone s rec code
    pub default_none : mode.default ≡ true → HasNone s rec rec.codes.default

-- a code that a text need not look up, or one with a glyph of its own
abbrev pub OwnOrBreak : List ℕ → Record → ℕ → Type 0
OwnOrBreak s rec code = (code ≡ 13) ⊎ ((code ≡ 10) ⊎ ((g : ℕ) × HasGlyph s rec code g))

-- "a text whose every code has a glyph"
abbrev pub AllOwnOrBreak : List ℕ → Record → List Char → Type 0
AllOwnOrBreak s rec [] = Unit {0}
AllOwnOrBreak s rec (c ∷ cs) = OwnOrBreak s rec c.code × AllOwnOrBreak s rec cs

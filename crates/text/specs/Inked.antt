-- A pass over a text with ink or without: what it colours, and what it asks. No promise is stated with these.
use Rattle.std.specs.Prelude.{ℕ, ◌≡◌, Bool, true, ◌&&◌, List}
use Rattle.tables.specs.declared.Record.{Record}
use Rattle.modes.specs.declared.Mode.{Mode}
use Rattle.utf8.specs.Decode.{decoded, chars_of}
use Rattle.text.specs.Walk.{origin}
use Rattle.text.specs.Text.{text_from}
use Rattle.text.specs.declared.Layout.{Layout}
use Rattle.text.specs.declared.TextDrawn.{TextDrawn}
use Rattle.text.specs.declared.TextRows.{TextRows}

-- pixel k is one that a pass colours: with ink those of the rule, and none without
unfoldable pub inked : Bool → (ℕ → Bool) → ℕ → Bool
inked ink rule k = ink && rule k

-- a pass with ink has a buffer of the length that its answer is for
pub record Lent (ink : Bool) (len pixels : ℕ) : Type 0 where
  pub same : ink ≡ true → len ≡ pixels

-- and nothing refuses its text there
pub record Inkable (ink : Bool) (s : List ℕ) (rec : Record) (mode : Mode) (lay : Layout) (len : ℕ) (text : List ℕ) (pixels : ℕ) : Type 0 where
  pub lent : Lent ink len pixels
  pub done : ink ≡ true → (rows : TextRows) × (text_from s rec mode lay len (chars_of (decoded text)) origin 0 ≡ TextDrawn.Done rows)

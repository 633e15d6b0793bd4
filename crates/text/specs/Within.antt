-- What a text's inner functions ask of their arguments, so that no number leaves 64 bits. No promise is stated with these.
use Rattle.std.specs.Prelude.{ℕ, ◌+◌, ◌*◌, ◌≤◌, ◌≡◌, List, length}
use Rattle.tables.specs.declared.Record.{Record}
use Rattle.utf8.specs.Decode.{chars, decoded, chars_of}
use Rattle.text.specs.Walk.{line_height}
use Rattle.text.specs.declared.Layout.{Layout}
use Rattle.text.specs.declared.Pen.{Pen}
use Rattle.text.specs.declared.Placed.{Placed}

-- the layout is within its limits, and this is its line height
pub record Settled (rec : Record) (lay : Layout) (line : ℕ) : Type 0 where
  pub start_high : lay.start ≤ 2147483647
  pub stride_high : lay.stride ≤ 65535
  pub scale_high : lay.scale ≤ 64
  pub line_is : line ≡ line_height rec lay.scale
  pub line_high : line ≤ 4194240

-- the pen has moved at most k times, by 64 × 65,535 each time
pub record PenIn (k : ℕ) (pen : Pen) : Type 0 where
  pub x_in : pen.x ≤ k * 4194240
  pub y_in : pen.y ≤ k * 4194240

-- so has the pen of what was placed
abbrev pub PlacedIn : ℕ → Placed → Type 0
PlacedIn k (Placed.Skip pen) = PenIn k pen
PlacedIn k (Placed.Glyph pen i) = PenIn k pen
PlacedIn k (Placed.Refused n) = Unit {0}

-- from one pen to the next: no further right than by one glyph, and no further down
pub record Moved (from to : Pen) : Type 0 where
  pub right : to.x ≤ from.x + 4194240
  pub down : to.y ≤ from.y

-- the pen with which a glyph was placed
abbrev pub placed_pen : Placed → Pen → Pen
placed_pen (Placed.Skip pen) old = pen
placed_pen (Placed.Glyph pen i) old = pen
placed_pen (Placed.Refused n) old = old

-- the text can be walked over
pub record Readable (text : List ℕ) : Type 0 where
  pub is_chars : decoded text ≡ chars (chars_of (decoded text))
  pub is_short : length text ≤ 65535

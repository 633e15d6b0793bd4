-- Document 01's proved cases P1 to P10, as one table: what is asked of font F, and what is to be seen.
use Rattle.std.specs.Prelude.{ℕ, ◌≡◌, List, [], ◌∷◌, ℤ, pos, negsuc}
use Rattle.reads.specs.Said.{says, refuses, refusal}
use Rattle.text.specs.declared.Wrap.{Wrap}
use Rattle.promises.specs.Seen.{Seen, Ask, char, text, glyph, metric, seen}

pub record Case : Type 0 where
  pub ask : Ask
  pub want : Seen

abbrev pub case : Ask → Seen → Case
case a w = record { ask = a; want = w }

-- an answer with these values, and these pixels
abbrev pub shows : List ℤ → List ℕ → Seen
shows values pixels = record { answer = says values; pixels = pixels }

-- refused at place 0: no value, and no pixel
abbrev pub declines : ℕ → Seen
declines n = record { answer = refuses (refusal n 0); pixels = [] }

-- the placed '0' of F (glyph 0, 3 wide, 3 high, no pads), the rows drawn and dropped, and the code itself, not the default
abbrev pub zero_glyph : ℕ → ℕ → List ℤ
zero_glyph drawn dropped = pos 0 ∷ pos 3 ∷ pos 3 ∷ pos 0 ∷ pos 0 ∷ pos drawn ∷ pos dropped ∷ pos 0x30 ∷ pos 0 ∷ []

-- a text's height and dropped rows
abbrev pub high : ℕ → ℕ → List ℤ
high height dropped = pos height ∷ pos dropped ∷ []

unfoldable pub table : List Case
table =
    -- P1: '0', stride 3, 9 pixels: all but pixel 4
    case (char 0x30 3 9 1) (shows (zero_glyph 3 0) (0 ∷ 1 ∷ 2 ∷ 3 ∷ 5 ∷ 6 ∷ 7 ∷ 8 ∷ []))
    -- P2: 8 pixels: 0, 1, 2, 3, 5; 2 rows
    ∷ case (char 0x30 3 8 1) (shows (zero_glyph 2 1) (0 ∷ 1 ∷ 2 ∷ 3 ∷ 5 ∷ []))
    -- P3: scale 2, stride 6, 24 pixels: 16
    ∷ case (char 0x30 6 24 2) (declines 16)
    -- P4: the same, 11 pixels: nothing, 0 rows
    ∷ case (char 0x30 6 11 2) (shows (zero_glyph 0 3) [])
    -- P5: "01", stride 6, 36 pixels, wrap 6: height 6
    ∷ case (text "01" 6 36 (Wrap.At 6)) (shows (high 6 0) (0 ∷ 1 ∷ 2 ∷ 6 ∷ 8 ∷ 12 ∷ 13 ∷ 14 ∷ 19 ∷ 25 ∷ 31 ∷ []))
    -- P6: the same, wrap 7: 3
    ∷ case (text "01" 6 36 (Wrap.At 7)) (shows (high 3 0) (0 ∷ 1 ∷ 2 ∷ 4 ∷ 6 ∷ 8 ∷ 10 ∷ 12 ∷ 13 ∷ 14 ∷ 16 ∷ []))
    -- P7: the same, empty text: 3
    ∷ case (text "" 6 36 (Wrap.At 7)) (shows (high 3 0) [])
    -- P8: "01", stride 6, 18 pixels, no wrap: 0, 1, 2, 4, 6, 8, 10, 12, 13, 14; 1 dropped
    ∷ case (text "01" 6 18 Wrap.Never) (shows (high 3 1) (0 ∷ 1 ∷ 2 ∷ 4 ∷ 6 ∷ 8 ∷ 10 ∷ 12 ∷ 13 ∷ 14 ∷ []))
    -- P9: code 0x32: 9
    ∷ case (glyph 0x32) (declines 9)
    -- P10: byte 0x7F: metric -1
    ∷ case (metric 0x7F) (shows (negsuc 0 ∷ pos 3 ∷ pos 3 ∷ pos 3 ∷ pos 0 ∷ pos 0 ∷ []) [])
    ∷ []

-- each case of a table: what is seen is what is to be seen
abbrev pub Holds : List Case → Type 0
Holds [] = Unit {0}
Holds (c ∷ cs) = (seen c.ask ≡ c.want) × Holds cs

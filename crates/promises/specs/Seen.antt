-- What is asked of font F in the proved cases, and what is seen: the answer, and the pixels that are coloured. Everything starts from
-- F's bytes and goes through loading.
use Rattle.std.specs.Prelude.{ℕ, suc, cond, List, [], ◌∷◌, replicate, set, eqb}
use Prim.Native.String.{String}
use Rattle.reads.specs.Said.{Said, refuses}
use Rattle.tables.specs.declared.Record.{Record}
use Rattle.load.specs.Load.{loaded}
use Rattle.load.specs.declared.Loaded.{Loaded}
use Rattle.modes.specs.Modes.{plain}
use Rattle.lookup.specs.Served.{get_glyph, said_served}
use Rattle.metrics.specs.Measure.{get_metrics, said_measured}
use Rattle.bitmaps.specs.Place.{place_at}
use Rattle.glyphs.specs.Char.{draw_char, char_leaves, said_char}
use Rattle.glyphs.specs.declared.CharDrawn.{CharDrawn}
use Rattle.text.specs.Text.{draw_string, string_leaves, said_text}
use Rattle.text.specs.declared.Wrap.{Wrap}
use Rattle.text.specs.declared.Layout.{Layout}
use Rattle.text.specs.declared.TextDrawn.{TextDrawn}
use Rattle.promises.specs.Typed.{typed}
use Rattle.promises.specs.FontF.{font_f}

-- what is seen: the answer's number, place and values, and the places of the pixels that have the colour
pub record Seen : Type 0 where
  pub answer : Said
  pub pixels : List ℕ

-- what is asked in the plain mode; start is 0
pub data Ask : Type 0 where
  -- draw_char: the code, then stride, pixels, scale
  char : ℕ → ℕ → ℕ → ℕ → Ask
  -- draw_string at scale 1: the text, then stride, pixels, wrap
  text : String → ℕ → ℕ → Wrap → Ask
  -- get_glyph
  glyph : ℕ → Ask
  -- get_metrics of glyph 0 once the first byte of its record, byte 170 of F, is this one
  metric : ℕ → Ask

-- ---- what is seen of an ask

-- a buffer of pixels that are not of colour 1
abbrev pub cleared : ℕ → List ℕ
cleared n = replicate n 0

-- the places of colour 1, counted from i
abbrev pub places_from : ℕ → List ℕ → List ℕ
places_from i [] = []
places_from i (x ∷ xs) = let later = places_from (suc i) xs in cond (eqb x 1) (i ∷ later) later

abbrev pub seen_char : List ℕ → Record → ℕ → ℕ → ℕ → CharDrawn → Seen
seen_char s rec pixels stride scale r = record { answer = said_char r; pixels = places_from 0 (char_leaves s rec (place_at 0 stride scale) 1 r (cleared pixels)) }

abbrev pub seen_text : List ℕ → Record → List ℕ → ℕ → Layout → TextDrawn → Seen
seen_text s rec t pixels lay r = record { answer = said_text r; pixels = places_from 0 (string_leaves s rec plain t lay 1 r (cleared pixels)) }

abbrev pub layout : ℕ → Wrap → Layout
layout stride wrap = record { start = 0; wrap = wrap; stride = stride; scale = 1 }

-- of a record that loading gave for the bytes
unfoldable pub asked : List ℕ → Loaded → Ask → Seen
asked s (Loaded.Refused r) a = record { answer = refuses r; pixels = [] }
asked s (Loaded.Font rec) (char code stride pixels scale) =
    seen_char s rec pixels stride scale (draw_char s rec plain code pixels (place_at 0 stride scale))
asked s (Loaded.Font rec) (text t stride pixels wrap) =
    seen_text s rec (typed t) pixels (layout stride wrap) (draw_string s rec plain (typed t) pixels (layout stride wrap))
asked s (Loaded.Font rec) (glyph code) = record { answer = said_served (get_glyph s rec plain code); pixels = [] }
asked s (Loaded.Font rec) (metric b) = record { answer = said_measured (get_metrics s rec 0); pixels = [] }

-- the bytes that an ask is about
abbrev pub bytes_for : Ask → List ℕ
bytes_for (char code stride pixels scale) = font_f
bytes_for (text t stride pixels wrap) = font_f
bytes_for (glyph code) = font_f
bytes_for (metric b) = set font_f 170 b

unfoldable pub seen : Ask → Seen
seen a = let s = bytes_for a in asked s (loaded s) a

-- What the input of the program asks for: eight numbers of four bytes, the least significant byte first, then the text and the font.
use Rattle.std.specs.Prelude.{ℕ, ◌+◌, ◌*◌, ◌≤◌, Bool, cond, ◌&&◌, List, length, leb, eqb, Option, Some, None}
use Rattle.modes.specs.Modes.{is_known, mode_of}
use Rattle.text.specs.Walk.{wrap_of}
use Rattle.console.specs.Asked.{number_in}
use Rattle.panel.specs.declared.asked.Kind.{Kind}
use Rattle.panel.specs.declared.asked.Request.{Request}

-- a number of 64 bits, of its two halves
abbrev pub both_halves : ℕ → ℕ → ℕ
both_halves low high = high * 4294967296 + low

-- what to print: half blocks, 0, or a picture, 1
abbrev pub kind_of : ℕ → Option Kind
kind_of n = cond (eqb n 0) (Some Kind.Blocks) (cond (eqb n 1) (Some Kind.Picture) None)

abbrev pub request_of : List ℕ → Kind → Request
request_of s kind = record {
  kind = kind;
  width = number_in s 1;
  height = number_in s 2;
  len = number_in s 1 * number_in s 2;
  scale = number_in s 3;
  wrap = wrap_of (both_halves (number_in s 4) (number_in s 5));
  mode = mode_of (number_in s 6);
  text = number_in s 7;
}

-- what an input of n bytes can ask for: a width of 1 to 65,535, 1 to 65,536 pixels, and a text that lies in the input
abbrev pub is_sound : ℕ → Request → Bool
is_sound n r = leb 1 r.width && leb r.width 65535 && leb 1 r.height && leb r.len 65536 && leb (32 + r.text) n

abbrev pub asked_for : List ℕ → Option Kind → Option Request
asked_for s None = None
asked_for s (Some kind) =
    cond (is_known (number_in s 6)) (cond (is_sound (length s) (request_of s kind)) (Some (request_of s kind)) None) None

-- a known kind and a known mode, and what an input of this length can ask for
abbrev pub asked_of : List ℕ → Option Request
asked_of s = asked_for s (kind_of (number_in s 0))

-- what the printing needs of a request
abbrev pub Sized : Request → Type 0
Sized r = (1 ≤ r.width) × (r.width ≤ 65535)

abbrev pub Printable : ℕ → Request → Type 0
Printable n r = Sized r × (r.len ≤ 65536) × (32 + r.text ≤ n)

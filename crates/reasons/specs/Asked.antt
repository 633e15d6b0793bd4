-- What the input of the program asks: nine numbers of four bytes, the least significant byte first, then the text and the font.
use Rattle.std.specs.Prelude.{ℕ, ◌+◌, ◌*◌, ◌≤◌, cond, List, length, leb, eqb, Option, Some, None}
use Rattle.modes.specs.Modes.{is_known, mode_of}
use Rattle.console.specs.Asked.{number_in}
use Rattle.reasons.specs.declared.asked.Kind.{Kind}
use Rattle.reasons.specs.declared.asked.Request.{Request}

-- what is asked for: the characters of a text, 0, or one code, 1
abbrev pub kind_of : ℕ → Option Kind
kind_of n = cond (eqb n 0) (Some Kind.Characters) (cond (eqb n 1) (Some Kind.Code) None)

abbrev pub request_of : List ℕ → Kind → Request
request_of s kind = record {
  kind = kind;
  code = record { 0 = number_in s 1 };
  len = number_in s 2 * number_in s 3;
  start = number_in s 4;
  stride = number_in s 5;
  scale = number_in s 6;
  mode = mode_of (number_in s 7);
  text = number_in s 8;
}

-- a known mode, and a text that lies in the input
abbrev pub asked_for : List ℕ → Option Kind → Option Request
asked_for s None = None
asked_for s (Some kind) =
    cond (is_known (number_in s 7)) (cond (leb (36 + number_in s 8) (length s)) (Some (request_of s kind)) None) None

abbrev pub asked_of : List ℕ → Option Request
asked_of s = asked_for s (kind_of (number_in s 0))

abbrev pub Inside : ℕ → Request → Type 0
Inside n r = 36 + r.text ≤ n

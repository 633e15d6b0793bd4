-- A line that was put into a buffer has no more bytes than the buffer, so that they can be lent on.
use Prim.Native.Nat.{ℕ, ◌≤◌}
use native.Mathlib.Omega.{arith}
use mathlib.Core.Path.{◌≡◌, sym, ap, ◌∙◌}
use mathlib.Core.Bool.{Bool, true, false}
use mathlib.Core.List.{List}
use lib.ListN.{length}
use lib.Dec.{ltb}
use borrow.Author.Tests.{ltb-false, le-ltb}
use Rattle.reads.proofs.Tests.{never, split}
use Rattle.tables.specs.declared.Record.{Record}
use Rattle.frames.specs.Frames.{frame_of}
use Rattle.frames.specs.Put.{refused_line, line_into, frame_into, refused_into}
use Rattle.frames.specs.declared.Printed.{Printed}
use Rattle.frames.proofs.HasFrame.{frame_line}

abbrev pub is_bytes : Printed → Bool
is_bytes (Printed.Bytes n) = true
is_bytes (Printed.Refused r) = false

abbrev count_of : Printed → ℕ
count_of (Printed.Bytes n) = n
count_of (Printed.Refused r) = 0

line_within : (line : List ℕ) (room n : ℕ) → Printed.Bytes n ≡ line_into line room → n ≤ room
line_within line room n e =
    split (ltb room (length line))
    (λ t. never (ap is_bytes (rw t at (sym e))))
    (λ t. let same : length line ≡ n = ap count_of (rw t at (sym e)) in omega (arith, ltb-false room (length line) t))

pub frame_within : (s : List ℕ) (rec : Record) (code room n : ℕ) → Printed.Bytes n ≡ frame_into s rec code room → n ≤ room
frame_within s rec code room n e = line_within (frame_of s rec code) room n (e ∙ frame_line s rec code room n (sym e))

pub refused_within : (k room n : ℕ) → k ≤ 99 → Printed.Bytes n ≡ refused_into k room → n ≤ room
unfolding refused_into
refused_within k room n two e = line_within (refused_line k) room n (rw (le-ltb 99 k two) at e)

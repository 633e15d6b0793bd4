-- Writers one after the other: what two of them stored is one run of characters, and a whole line is an answer.
use mathlib.Core.Path.{◌≡◌, refl, sym, ap, ◌∙◌}
use mathlib.Core.List.{List, [], ◌∷◌, ◌++◌}
use Prim.Native.Nat.{ℕ, suc, ◌+◌, ◌≤◌, ◌<◌}
use native.Mathlib.Nat.{add-zero, add-suc, suc-add}
use native.Mathlib.Omega.{arith}
use lib.ListN.{length, set, length-append}
use lib.Seq.{sets}
use borrow.Author.Tests.{lt-ltb, le-ltb}
use Rattle.reads.specs.Said.{refusal}
use Rattle.frames.specs.Put.{line_into}
use Rattle.frames.specs.Wrote.{Wrote}
use denote.MutBor.{MutBor}
use Rattle.frames.specs.declared.Printed.{Printed}

sets-append : (l : List ℕ) (i : ℕ) (a b : List ℕ) → sets l i (a ++ b) ≡ sets (sets l i a) (i + length a) b
sets-append l i [] b = ap (λ (k : ℕ). sets l k b) (sym (add-zero i))
sets-append l i (x ∷ a) b =
    sets-append (set l i x) (suc i) a b
    ∙ ap (λ (k : ℕ). sets (sets (set l i x) (suc i) a) k b) (suc-add i (length a) ∙ sym (add-suc i (length a)))

-- two runs, the second from where the first ended
pub then : {l m n : MutBor (List ℕ)} {i j k : ℕ} {a b : List ℕ} → Wrote l i a m j → Wrote m j b n k → Wrote l i (a ++ b) n k
then {l} {m} {n} {i} {j} {k} {a} {b} p q =
    let long : length (a ++ b) ≡ length a + length b = length-append a b in
    record {
      same_buffer = q.same_buffer ∙ p.same_buffer;
      put = record {
        up_to = omega (arith, long, p.put.up_to, q.put.up_to);
        stored =
            q.put.stored ∙ ap (λ (x : List ℕ). sets x j b) p.put.stored
            ∙ ap (λ (x : ℕ). sets (sets l.now i a) x b) p.put.up_to ∙ sym (sets-append l.now i a b);
        same = q.put.same ∙ p.put.same;
      };
    }

-- no run at all
pub nothing : (l : MutBor (List ℕ)) (i : ℕ) → Wrote l i [] l i
nothing l i = record { same_buffer = refl; put = record { up_to = omega arith; stored = refl; same = refl } }

-- a line and a buffer without room for it
pub no_room : (line : List ℕ) (room : ℕ) → room < length line → Printed.Refused (refusal 15 0) ≡ line_into line room
no_room line room h = rw (lt-ltb room (length line) h) refl

-- a line that was written where there is room, at the buffer's start
pub line_put : {line : List ℕ} {old : ℕ} {l m : MutBor (List ℕ)} {i j : ℕ} (n : ℕ) → length line ≤ old → i ≡ 0 → Wrote l i line m j → n ≡ j
    → Printed.Bytes n ≡ line_into line old
line_put {line} {old} {l} {m} {i} {j} n h start w is =
    let long : n ≡ length line = omega (arith, start, w.put.up_to, is) in
    rw (le-ltb old (length line) h) (ap Printed.Bytes long)

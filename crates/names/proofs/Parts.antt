-- The part of the bytes that a span is: its bytes, and where they stand; where it runs past the end, what there is.
use mathlib.Core.Path.{◌≡◌, sym, ap, ◌∙◌}
use mathlib.Core.List.{List}
use Prim.Native.Nat.{ℕ, ◌+◌, ◌-◌, ◌≤◌, ◌<◌, min}
use native.Mathlib.Omega.{arith}
use lib.ListN.{length, take, drop, length-drop, drop_of_length-le}
use lib.Seq.{take_all}
use lib.Dec.{leb}
use borrow.Author.Tests.{leb-true, leb-false}
use Rattle.reads.proofs.Tests.{split}
use Rattle.names.specs.Strings.{part_of, part_at, moved_by}
use Rattle.names.specs.declared.Span.{Span}

module _ (s : List ℕ) (p : Span) (from : ℕ) (from_is : from ≡ min (p.start + 0) (length s)) where
  -- what the bytes have from the cut start on is what they have from the start on
  rest_is : take (length s - from) (drop from s) ≡ drop p.start s
  rest_is =
      let all : take (length s - from) (drop from s) ≡ drop from s = take_all (length s - from) (drop from s) (omega (arith, length-drop from s)) in
      all ∙ split (leb p.start (length s))
      (λ t. let same : from ≡ p.start = omega (arith, leb-true p.start (length s) t) in ap (λ (k : ℕ). drop k s) same)
      (λ t.
      let past : length s < p.start = leb-false p.start (length s) t in
      drop_of_length-le s {i = from} (omega arith) ∙ sym (drop_of_length-le s {i = p.start} (omega arith)))

  pub part_rest : length (take (length s - from) (drop from s)) ≤ p.len → take (length s - from) (drop from s) ≡ part_of s p
  part_rest h = rest_is ∙ sym (take_all p.len (drop p.start s) (rw rest_is at h))

  pub part_front : take p.len (take (length s - from) (drop from s)) ≡ part_of s p
  part_front = ap (take p.len) rest_is

  pub stands_at : (at : ℕ × ℕ) → (at.0, from + at.1) ≡ moved_by at (part_at s p)
  stands_at at = let cut : from ≡ part_at s p = omega arith in ap (λ (k : ℕ). moved_by at k) cut

-- The frames of all codes are those of the table's range of codes, since no other code has a glyph.
use mathlib.Core.Path.{◌≡◌, refl, sym, ◌∙◌}
use mathlib.Core.List.{List, [], ◌++◌, append-nil, append_assoc}
use mathlib.Core.Logic.{inl, inr}
use Prim.Native.Nat.{ℕ, zero, suc, ◌+◌, ◌-◌, ◌≤◌, ◌<◌}
use native.Mathlib.Nat.{zero-add, add-zero}
use native.Mathlib.Omega.{arith}
use lib.Dec.{leb}
use borrow.Author.Tests.{leb-true, leb-false}
use Rattle.reads.proofs.Tests.{split}
use Rattle.tables.specs.declared.Record.{Record}
use Rattle.lookup.specs.CodeRange.{code_range}
use Rattle.lookup.proofs.OutsideRange.{Outside, range_end}
use Rattle.frames.specs.Frames.{frame_of, frames_from}
use Rattle.frames.proofs.HasFrame.{outside_whole}

module _ (s : List ℕ) (rec : Record) where
  -- the lines of m + n codes are those of the first m and of the n after them
  frames_append : (m n code : ℕ) → frames_from s rec (m + n) code ≡ frames_from s rec m code ++ frames_from s rec n (code + m)
  unfolding frames_from
  frames_append zero n code = rw (zero-add n, add-zero code) refl
  frames_append (suc m) n code =
      let e : suc m + n ≡ suc (m + n) = omega arith in
      let f : code + 1 + m ≡ code + suc m = omega arith in
      rw (e, frames_append m n (code + 1), f)
      (sym (append_assoc (frame_of s rec code) (frames_from s rec m (code + 1)) (frames_from s rec n (code + suc m))))

  outside_frame : (code : ℕ) → Outside rec.codes code → frame_of s rec code ≡ []
  unfolding frame_of
  outside_frame code out = rw (outside_whole s rec code out) refl

  -- codes without a frame print nothing
  frames_none : (n code : ℕ) → ((k : ℕ) → code ≤ k → k < code + n → frame_of s rec k ≡ []) → frames_from s rec n code ≡ []
  unfolding frames_from
  frames_none zero code f = refl
  frames_none (suc n) code f = rw (f code (omega arith) (omega arith)) (frames_none n (code + 1) (λ k l h. f k (omega arith) (omega arith)))

  -- the frames of the codes below `top`, where the range ends there or earlier
  frames_below : (low end top : ℕ) → (code_range rec.codes).low.0 ≡ low → (code_range rec.codes).end.0 ≡ end → end ≤ top
      → frames_from s rec top 0 ≡ frames_from s rec (end - low) low
  frames_below low end top l e h =
      split (leb low end)
      (λ t. let m : low + ((end - low) + (top - end)) ≡ top = omega (arith, leb-true low end t) in
      let before : frames_from s rec low 0 ≡ [] = frames_none low 0 (λ k a b. outside_frame k (inl (omega (arith, l)))) in
      let f : low + (end - low) ≡ end = omega (arith, leb-true low end t) in
      let after : frames_from s rec (top - end) end ≡ [] = frames_none (top - end) end (λ k a b. outside_frame k (inr (omega (arith, e)))) in
      rw (
        ← m,
        frames_append low ((end - low) + (top - end)) 0,
        before,
        zero-add low,
        frames_append (end - low) (top - end) low,
        f,
        after,
      )
      (append-nil (frames_from s rec (end - low) low)))
      (λ t. frames_none top 0 (λ k a b. outside_frame k (split (leb end k)
      (λ u. inr (omega (arith, e, leb-true end k u)))
      (λ u. inl (omega (arith, l, leb-false low end t, leb-false end k u)))))
      ∙ sym (frames_none (end - low) low (λ k a b. absurd (omega (arith, leb-false low end t)))))

  -- so a dump asks only the codes of the range
  pub frames_range :
      frames_from s rec 65536 0 ≡ frames_from s rec ((code_range rec.codes).end.0 - (code_range rec.codes).low.0) (code_range rec.codes).low.0
  frames_range = frames_below (code_range rec.codes).low.0 (code_range rec.codes).end.0 65536 refl refl (range_end rec.codes)

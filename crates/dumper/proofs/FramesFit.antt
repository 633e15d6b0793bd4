-- Every frame of a font that passed finds room in a buffer of 196,642 bytes, so that only a code without a glyph is refused; every refusal
-- has two digits and finds room in 11, so that none is refused.
use Prim.Native.Nat.{ℕ, ◌≤◌}
use native.Mathlib.Omega.{arith}
use mathlib.Core.Path.{◌≡◌, refl, sym, ap, ◌∙◌}
use mathlib.Core.List.{List}
use lib.ListN.{length}
use borrow.Author.Tests.{le-ltb}
use Rattle.reads.specs.declared.Refusal.{Refusal}
use Rattle.reads.proofs.Tests.{never}
use Rattle.tables.specs.declared.Record.{Record}
use Rattle.vet.specs.Vet.{vetted}
use Rattle.vet.specs.declared.Vetted.{Vetted}
use Rattle.frames.specs.Put.{refused_into, frame_into}
use Rattle.frames.specs.declared.Printed.{Printed}
use Rattle.frames.proofs.PassedFrames.{passed_nine}
use Rattle.dumper.proofs.LineCounts.{is_bytes, frame_within, refused_within}

pub no_other_refusal : (s : List ℕ) (rec : Record) (code room : ℕ) (q : Refusal) → vetted s ≡ Vetted.Passed rec → length s ≤ 49152 → 196642 ≤ room
    → Printed.Refused q ≡ frame_into s rec code room → (q.number ≡ 9 → ⊥) → ⊥
no_other_refusal s rec code room q passed short enough e other = other (passed_nine s rec passed code room (omega arith) q (sym e))

pub refused_fits : (n room : ℕ) (q : Refusal) → n ≤ 99 → 11 ≤ room → Printed.Refused q ≡ refused_into n room → ⊥
unfolding refused_into
refused_fits n room q two enough e =
    let put : refused_into n room ≡ Printed.Bytes 11 = rw (le-ltb 99 n two, le-ltb room 11 enough) refl in
    never (ap is_bytes (e ∙ put))

-- what printing a frame needs, and printing a refusal
pub ruleset frame_fits = (frame_within, no_other_refusal)

pub ruleset refusal_fits = (refused_within, refused_fits)

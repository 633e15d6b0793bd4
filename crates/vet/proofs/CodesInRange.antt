-- All 65,536 codes are vetted by the codes of the table's range.
use mathlib.Core.Path.{◌≡◌, refl, sym}
use mathlib.Core.List.{List}
use mathlib.Core.Logic.{inl, inr}
use Prim.Native.Nat.{ℕ, ◌-◌}
use Rattle.reads.specs.Said.{refusal}
use Rattle.reads.specs.declared.Refusal.{Refusal}
use Rattle.tables.specs.declared.Record.{Record}
use Rattle.lookup.specs.CodeRange.{code_range}
use Rattle.lookup.specs.declared.CodeRange.{CodeRange}
use Rattle.lookup.specs.Lookup.{glyph_of}
use Rattle.lookup.specs.declared.Found.{Found}
use Rattle.lookup.proofs.OutsideRange.{outside_none, range_end}
use Rattle.vet.specs.First.{first_fault}
use Rattle.vet.specs.Vet.{code_fault}
use Rattle.vet.proofs.FirstFault.{by_range}

module _ (s : List ℕ) (rec : Record) where
  -- a code without a glyph has no fault
  pub no_glyph_no_fault : (code : ℕ) (r : Refusal) → glyph_of s rec.codes code ≡ Found.Refused r → code_fault s rec code ≡ 0
  unfolding code_fault
  no_glyph_no_fault code r e = rw e refl

  abbrev low : ℕ
  low = (code_range rec.codes).low.0

  abbrev end : ℕ
  end = (code_range rec.codes).end.0

  pub codes_in_range : first_fault (code_fault s rec) 65536 0 ≡ first_fault (code_fault s rec) (end - low) low
  codes_in_range =
      by_range (code_fault s rec) 65536 low end (range_end rec.codes)
      (λ code below. no_glyph_no_fault code (refusal 9 0) (outside_none rec.codes code s (inl below)))
      (λ code above. no_glyph_no_fault code (refusal 9 0) (outside_none rec.codes code s (inr above)))

  pub codes_by_range : (range : CodeRange) → range ≡ code_range rec.codes
      → first_fault (code_fault s rec) (range.end.0 - range.low.0) range.low.0 ≡ first_fault (code_fault s rec) 65536 0
  codes_by_range range e = rw e (sym codes_in_range)

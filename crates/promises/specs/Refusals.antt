-- The numbers that a call refuses with, the documents' column "Refusals, in order".
use Rattle.std.specs.Prelude.{◌≡◌, false, List, [], ◌∷◌, ◌↔◌, ℕ, length}
use Rattle.reads.specs.Said.{Said, NumberedBy}
use Rattle.tables.specs.Fits.{record_fits}
use Rattle.tables.specs.declared.Record.{Record}

-- the numbers of a glyph that cannot be drawn
abbrev pub of_drawing : List ℕ
of_drawing = 13 ∷ 14 ∷ 16 ∷ []

-- What a call with a record and the bytes `s` answers: values or one of these numbers. And 6 stands for "a record with a region outside
-- the bytes given, a code minimum above its maximum, a code region without room for all its entries, or a row pad other than 1, 2, 4, 8",
-- and for nothing else.
pub record Refusals (s : List ℕ) (rec : Record) (ns : List ℕ) (a : Said) : Type 0 where
  pub numbered : NumberedBy ns a
  pub six : (a.number ≡ 6) ↔ (record_fits (length s) rec ≡ false)

-- 0 is no refusal: beside it stand values
abbrev pub Answers : Said → Type 0
Answers a = a.number ≡ 0 → a.values ≡ [] → ⊥

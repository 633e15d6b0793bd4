use Prim.Native.Nat.{ℕ, ◌<◌}
use mathlib.Core.Path.{◌≡◌, refl}
use mathlib.Core.List.{List, [], ◌∷◌}
use lib.Dec.{eqb}
use lib.ListN.{get_or}
use borrow.Author.Tests.{eqb-true}
use Rattle.bitmaps.specs.Paint.{some}
use Rattle.bitmaps.specs.Units.{packed, turned}
use Rattle.bitmaps.proofs.Searching.{below_test}
use borrow.Author.Rules.{rules}
use Rattle.bitmaps.proofs.units.reversed_half.Statement.{statement}
use Rattle.bitmaps.proofs.units.reversed_half.Tie as tie

halves : List ℕ
halves = 0 ∷ 8 ∷ 4 ∷ 12 ∷ 2 ∷ 10 ∷ 6 ∷ 14 ∷ 1 ∷ 9 ∷ 5 ∷ 13 ∷ 3 ∷ 11 ∷ 7 ∷ 15 ∷ []

-- every entry of the table keeps the rule
in_table : (n : ℕ) → n < 16 → get_or halves n 0 ≡ turned 4 n
unfolding some halves packed turned
in_table n h = eqb-true (get_or halves n 0) (turned 4 n) (below_test 16 (λ n. eqb (get_or halves n 0) (turned 4 n)) refl n h)

pub reversed_half_spec : {M : Type 1} → statement M
unfolding halves
reversed_half_spec =
    tie.close
    (tie.spec
    (λ c. search rules)  -- array-read-result
    (λ c. search in_table))  -- returns

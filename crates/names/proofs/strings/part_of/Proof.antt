use native.Mathlib.Nat.{le_of_lt}
use Rattle.reads.proofs.Lies.{counted}
use Rattle.names.proofs.Parts.{part_rest, part_front, stands_at}
use borrow.Author.Rules.{rules}
use Rattle.names.proofs.strings.part_of.Statement.{statement}
use Rattle.names.proofs.strings.part_of.Tie as tie

pub part_of_spec : {M : Type 1} → statement M
part_of_spec =
    tie.close
    (tie.spec
    (λ c κs. search rules)  -- reach-requires
    (λ c. search rules)  -- sub-rest
    (λ c. search rules)  -- part-rest-start
    (λ c. search rules)  -- part-rest-end
    (λ c. search (part_rest, stands_at))  -- returns
    (λ c. search (counted, le_of_lt, rules))  -- slice-aggregate-result
    (λ c. search (part_front, stands_at)))  -- returns-2

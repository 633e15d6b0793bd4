-- From half on the reading is -1 less what the number lacks of the largest.
use Rattle.reads.proofs.Signed.{half_fits, reads_below, reads_above}
use mir.Syntax.{w32}
use borrow.Author.Rules.{rules}
use Rattle.reads.proofs.i32_at.Statement.{statement}
use Rattle.reads.proofs.i32_at.Tie as tie

pub i32_at_spec : {M : Type 1} → statement M
i32_at_spec =
    tie.close
    (tie.spec
    (λ c κs. search rules)  -- number_at-requires
    (λ c. search rules)  -- cast-result
    (λ c. search rules)  -- sub-d
    (λ c. search rules)  -- cast-d
    (λ c. search (half_fits w32))  -- sub-result
    (λ c. search reads_below)  -- returns
    (λ c. search (reads_above w32 4)))  -- returns-2

-- From half on the reading is -1 less what the number lacks of the largest.
use Rattle.reads.proofs.Signed.{half_fits, reads_below, reads_above}
use mir.Syntax.{w16}
use borrow.Author.Rules.{rules}
use Rattle.reads.proofs.i16_at.Statement.{statement}
use Rattle.reads.proofs.i16_at.Tie as tie

pub i16_at_spec : {M : Type 1} → statement M
i16_at_spec =
    tie.close
    (tie.spec
    (λ c κs. search rules)  -- number_at-requires
    (λ c. search rules)  -- cast-result
    (λ c. search rules)  -- sub-d
    (λ c. search rules)  -- cast-d
    (λ c. search (half_fits w16))  -- sub-result
    (λ c. search reads_below)  -- returns
    (λ c. search (reads_above w16 2)))  -- returns-2

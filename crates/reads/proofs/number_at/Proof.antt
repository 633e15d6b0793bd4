-- The test that the bytes lie inside is the definition's own.
use Rattle.reads.proofs.Lies.{sum_fits, lies_inside}
use Rattle.reads.proofs.Digits.{number_inside, number_outside, none_below}
use borrow.Author.Rules.{rules}
use Rattle.reads.proofs.number_at.Statement.{statement}
use Rattle.reads.proofs.number_at.Tie as tie

pub number_at_spec : {M : Type 1} → statement M
number_at_spec =
    tie.close
    (tie.spec
    (λ c κs. search rules)  -- lies_in-requires
    (λ c. search sum_fits)  -- add-digits-at
    (λ c κs. search lies_inside)  -- digits_at-requires
    (λ c. search number_inside)  -- returns
    (λ c. search (number_outside, none_below)))  -- returns-2

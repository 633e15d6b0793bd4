-- At each turn n is the number of the first i digits.
use Prim.Native.Nat.{◌-◌}
use Rattle.reads.proofs.Digits.{Summed, no_digit, shift_fits, digit_fits, next_digit, all_digits, all_small}
use borrow.Author.Rules.{rules}
use Rattle.reads.proofs.digits_at.Statement.{statement}
use Rattle.reads.proofs.digits_at.Tie as tie

abbrev invariant-loop-i : tie.invariant-loop-i
invariant-loop-i s at width big n₀ i₀ n i = Summed big width s at n i

abbrev decreases-loop-i : tie.decreases-loop-i
decreases-loop-i s at width big n₀ i₀ n i = width - i

pub digits_at_spec : {M : Type 1} → statement M
digits_at_spec =
    tie.close
    (tie.spec
    invariant-loop-i
    decreases-loop-i
    (λ c. search no_digit)  -- loop-holds
    (λ c. search shift_fits)  -- mul-n
    (λ c κs. search rules)  -- digit_at-requires
    (λ c. search digit_fits)  -- add-n
    (λ c. search rules)  -- add-i
    (λ c. search rules)  -- loop-less
    (λ c. search next_digit)  -- loop-again
    (λ c. search (all_digits, all_small)))  -- returns

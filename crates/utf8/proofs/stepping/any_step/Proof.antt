-- One law for each way out: the end, a first byte of no line, one that stands alone, a second byte in its range and one outside it.
use native.Mathlib.Omega.{arith}
use Rattle.reads.proofs.Places.{known}
use Rattle.utf8.proofs.Steps.{past_end, first_none, step_one, step_longer, second_none}
use borrow.Author.Rules.{rules}
use Rattle.utf8.proofs.stepping.any_step.Statement.{statement}
use Rattle.utf8.proofs.stepping.any_step.Tie as tie

pub any_step_spec : {M : Type 1} → statement M
any_step_spec =
    tie.close
    (tie.spec
    (λ c. search past_end)  -- returns
    (λ c. search rules)  -- shared-slice-read-b1
    (λ c κs. search rules)  -- lead_of-requires
    (λ c κs. search rules)  -- ill_formed-requires
    (λ c. search first_none)  -- returns-2
    (λ c. omega (arith, (known tie.After-shared_slice_known-2-1 (search)).shared_slice_known-2-1.given (known tie.Start (search)).args.i))  -- cast-t13
    (λ c. search rules)  -- add-t15
    (λ c. search step_one)  -- returns-3
    (λ c κs. search rules)  -- byte_at-requires
    (λ c κs. search rules)  -- byte_at-requires-2
    (λ c κs. search rules)  -- byte_at-requires-3
    (λ c κs. search rules)  -- longer-requires
    (λ c. search step_longer)  -- returns-4
    (λ c κs. search rules)  -- ill_formed-requires-2
    (λ c. search second_none))  -- returns-5

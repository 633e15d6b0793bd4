use Rattle.reads.proofs.Places.{known}
use Prim.Native.Nat.{◌-◌}
use native.Mathlib.Omega.{arith}
use Rattle.outcome.proofs.Corner.{last_line}
use Rattle.paint.proofs.Lines.{Lined, no_line, line_more, all_lines}
use Rattle.paint.proofs.bar.bar.Statement.{statement}
use Rattle.paint.proofs.bar.bar.Tie as tie

abbrev invariant-loop-a : tie.invariant-loop-a
invariant-loop-a buf₀ at stride scale long colour side a₀ buf a = Lined buf₀ at stride scale long colour buf a

abbrev decreases-loop-a : tie.decreases-loop-a
decreases-loop-a buf₀ at stride scale long colour side a₀ buf a = scale - a

pub bar_spec : {M : Type 1} → statement M
bar_spec =
    tie.close
    (tie.spec
    invariant-loop-a
    decreases-loop-a
    (λ c. search no_line)  -- loop-holds
    (λ c. omega (arith, last_line _ _ (known (tie.Start invariant-loop-a decreases-loop-a) (search)).args.stride (known (tie.In-loop-a invariant-loop-a decreases-loop-a) (search)).loop-a-test.true))  -- mul-dots
    (λ c. omega (arith, last_line _ _ (known (tie.Start invariant-loop-a decreases-loop-a) (search)).args.stride (known (tie.In-loop-a invariant-loop-a decreases-loop-a) (search)).loop-a-test.true))  -- add-dots
    (λ c κs. omega (arith, last_line _ _ (known (tie.Start invariant-loop-a decreases-loop-a) (search)).args.stride (known (tie.In-loop-a invariant-loop-a decreases-loop-a) (search)).loop-a-test.true))  -- dots-requires
    (λ c. omega arith)  -- add-a
    (λ c. omega arith)  -- loop-less
    (λ c. search line_more)  -- loop-again
    (λ c. omega arith)  -- same-length
    (λ c. search all_lines))  -- returns

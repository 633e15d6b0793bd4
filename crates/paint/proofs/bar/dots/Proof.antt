use Prim.Native.Nat.{◌-◌, ◌<◌}
use native.Mathlib.Omega.{arith}
use Rattle.paint.proofs.Lines.{Dotted, no_dot, dot_more, all_dots}
use Rattle.paint.proofs.bar.dots.Statement.{statement}
use Rattle.paint.proofs.bar.dots.Tie as tie

abbrev invariant-loop-b : tie.invariant-loop-b
invariant-loop-b buf₀ at n colour b₀ buf b = Dotted buf₀ at n colour buf b

abbrev decreases-loop-b : tie.decreases-loop-b
decreases-loop-b buf₀ at n colour b₀ buf b = n - b

pub dots_spec : {M : Type 1} → statement M
dots_spec =
    tie.close
    (tie.spec
    invariant-loop-b
    decreases-loop-b
    (λ c. search no_dot)  -- loop-holds
    (λ c. omega arith)  -- add-buf
    (λ c. omega arith)  -- mul-buf
    (λ c. omega arith)  -- slice-write-buf
    (λ c. omega arith)  -- add-b
    (λ c. omega arith)  -- loop-less
    (λ c. let below : c.loop-b.b < c.args.n = omega arith in search (dot_more, below))  -- loop-again
    (λ c. omega arith)  -- same-length
    (λ c. search all_dots))  -- returns

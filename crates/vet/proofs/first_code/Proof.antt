-- The invariant: the codes of the table's range that are left answer for all 65,536.
use mathlib.Core.Path.{◌≡◌}
use Prim.Native.Nat.{◌-◌}
use Rattle.vet.specs.First.{first_fault}
use Rattle.vet.specs.Vet.{code_fault}
use Rattle.vet.proofs.FirstFault.{loop_ends, loop_stops, loop_goes_on}
use Rattle.vet.proofs.CodesInRange.{codes_by_range}
use borrow.Author.Rules.{rules}
use Rattle.vet.proofs.first_code.Statement.{statement}
use Rattle.vet.proofs.first_code.Tie as tie

abbrev invariant-loop-code : tie.invariant-loop-code
invariant-loop-code s rec end code₀ code = first_fault (code_fault s rec) (end - code) code ≡ first_fault (code_fault s rec) 65536 0

abbrev decreases-loop-code : tie.decreases-loop-code
decreases-loop-code s rec end code₀ code = end - code

pub first_code_spec : {M : Type 1} → statement M
first_code_spec =
    tie.close
    (tie.spec
    invariant-loop-code
    decreases-loop-code
    (λ c κs. search rules)  -- code_range-requires
    (λ c. search codes_by_range)  -- loop-holds
    (λ c κs. search rules)  -- code_fault-requires
    (λ c. search rules)  -- cast-t8
    (λ c. search loop_stops)  -- returns
    (λ c. search rules)  -- add-code
    (λ c. search rules)  -- loop-less
    (λ c. search loop_goes_on)  -- loop-again
    (λ c. search loop_ends))  -- returns-2

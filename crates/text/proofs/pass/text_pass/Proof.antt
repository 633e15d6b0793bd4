use Prim.Native.Nat.{◌-◌}
use native.Mathlib.Omega.{arith}
use lib.ListN.{length}
use Rattle.reads.proofs.Places.{known}
use Rattle.utf8.proofs.Walk.{step_less}
use Rattle.text.proofs.Turns.{
  Walking,
  walking_first,
  walking_end,
  inked_end,
  walking_never,
  inked_never,
  walking_stop,
  inked_stop,
  walking_next,
  lent_still,
  pen_near,
  placed_near,
}
use borrow.Author.Rules.{rules}
use Rattle.text.proofs.pass.text_pass.Statement.{statement}
use Rattle.text.proofs.pass.text_pass.Tie as tie

abbrev invariant-loop-code : tie.invariant-loop-code
invariant-loop-code s rec mode other lay line len buf₀ text ink colour i₀ pen₀ dropped₀ buf i pen dropped = Walking s rec mode lay len text ink colour buf₀ i pen dropped buf

abbrev decreases-loop-code : tie.decreases-loop-code
decreases-loop-code s rec mode other lay line len buf₀ text ink colour i₀ pen₀ dropped₀ buf i pen dropped = length text - i

pub text_pass_spec : {M : Type 1} → statement M
text_pass_spec =
    tie.close
    (tie.spec
    invariant-loop-code
    decreases-loop-code
    (λ c. search walking_first)  -- loop-holds
    (λ c κs. search rules)  -- step_at-requires
    (λ c. search rules)  -- enum-known-here
    (λ c κs. search pen_near)  -- placed_at-requires
    (λ c κs. search (placed_near, lent_still))  -- turn_drawn-requires
    (λ c. search rules)  -- enum-known-drawn
    (λ c. search rules)  -- cast-dropped
    (λ c. omega (arith, (known (tie.Start invariant-loop-code decreases-loop-code) (search)).requires.1.0.is_short))  -- add-dropped
    (λ c κs.
    let settled = (known (tie.Start invariant-loop-code decreases-loop-code) (search)).requires.0 in
    let readable = (known (tie.Start invariant-loop-code decreases-loop-code) (search)).requires.1.0 in
    (omega (arith, settled.scale_high), search (placed_near, settled, readable)))  -- pen_after-requires
    (λ c. omega (arith, step_less c.args.text.now c.loop-code.i c.step_at-here.result c.in-Char.code c.in-Char.next (search) (search)))  -- loop-less
    (λ c. search (walking_next, (known (tie.Start invariant-loop-code decreases-loop-code) (search)).requires.0))  -- loop-again
    (λ c. search rules)  -- enum-known-drawn-2
    (λ c. omega arith)  -- same-length
    (λ c.
    let entry = (known (tie.Start invariant-loop-code decreases-loop-code) (search)).requires in
    (search (walking_stop, entry.0), search (inked_stop, entry.0, entry.1.1.0)))  -- returns
    (λ c. search rules)  -- enum-told
    (λ c. omega arith)  -- add-t25
    (λ c. search)  -- same-length-2
    (λ c. (search walking_end, search inked_end))  -- returns-2
    (λ c. search rules)  -- enum-known-here-2
    (λ c. search)  -- same-length-3
    (λ c. (search walking_never, search inked_never)))  -- returns-3

use Prim.Native.Nat.{◌-◌}
use borrow.Author.Rules.{rules}
use Rattle.load.proofs.Entries.{Walking, walk_begins, walk_goes_on, walk_stops, walk_ends}
use Rattle.load.proofs.all_entries.Statement.{statement}
use Rattle.load.proofs.all_entries.Tie as tie

abbrev invariant-loop-k : tie.invariant-loop-k
invariant-loop-k s strict count g₀ k₀ g k = Walking strict s count k g

abbrev decreases-loop-k : tie.decreases-loop-k
decreases-loop-k s strict count g₀ k₀ g k = count - k

pub all_entries_spec : {M : Type 1} → statement M
all_entries_spec =
    tie.close
    (tie.spec
    invariant-loop-k
    decreases-loop-k
    (λ c κs. search rules)  -- nothing_yet-requires
    (λ c. search walk_begins)  -- loop-holds
    (λ c κs. search rules)  -- entry_at-requires
    (λ c. search rules)  -- enum-known-h
    (λ c. search rules)  -- enum-known-number
    (λ c. search walk_stops)  -- returns
    (λ c. search rules)  -- add-k
    (λ c. search rules)  -- loop-less
    (λ c. search walk_goes_on)  -- loop-again
    (λ c κs. search rules)  -- finish-requires
    (λ c. search walk_ends))  -- returns-2

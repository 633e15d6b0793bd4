use Rattle.tables.proofs.Guarded.{is_guard}
use Rattle.outcome.proofs.Ready.{ready_refused, ready_12, ready_given}
use borrow.Author.Rules.{rules}
use Rattle.outcome.proofs.check.bitmap_ready.Statement.{statement}
use Rattle.outcome.proofs.check.bitmap_ready.Tie as tie

pub bitmap_ready_spec : {M : Type 1} → statement M
bitmap_ready_spec =
    tie.close
    (tie.spec
    (λ c κs. search rules)  -- record_fits-requires
    (λ c κs. search rules)  -- ok_place-requires
    (λ c κs. search rules)  -- ok_pair-requires
    (λ c κs. search rules)  -- guard-requires
    (λ c. search rules)  -- enum-told
    (λ c κs. search rules)  -- no_bitmap-requires
    (λ c. search (ready_12, is_guard))  -- returns
    (λ c. search rules)  -- enum-known-permit
    (λ c. search (ready_given, is_guard))  -- returns-2
    (λ c. search (ready_refused, is_guard)))  -- returns-3

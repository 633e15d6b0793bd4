use Rattle.tables.proofs.Guarded.{is_guard}
use Rattle.reads.proofs.Places.{known}
use Rattle.text.proofs.BeforeFirst.{line_fits, ready_refused, ready_19, ready_sized, ready_11}
use borrow.Author.Rules.{rules}
use Rattle.text.proofs.string.ready_for.Statement.{statement}
use Rattle.text.proofs.string.ready_for.Tie as tie

pub ready_for_spec : {M : Type 1} → statement M
ready_for_spec =
    tie.close
    (tie.spec
    (λ c κs. search rules)  -- record_fits-requires
    (λ c κs. search rules)  -- ok_place-requires
    (λ c κs. search rules)  -- guard-requires
    (λ c. search rules)  -- enum-told
    (λ c κs. search rules)  -- check-requires
    (λ c. search rules)  -- enum-told-2
    (λ c κs. search rules)  -- bounds_sized-requires
    (λ c. search rules)  -- enum-known-size
    (λ c. search (line_fits (known tie.Start (search)).args.rec (known tie.Start (search)).args.lay))  -- mul-t18
    (λ c. search rules)  -- enum-known-size-2
    (λ c. search rules)  -- enum-known-checked
    (λ c. search rules)  -- enum-known-permit
    (λ c. search (ready_sized, is_guard))  -- returns
    (λ c. search (ready_11, is_guard))  -- returns-2
    (λ c. search (ready_19, is_guard))  -- returns-3
    (λ c. search (ready_refused, is_guard)))  -- returns-4

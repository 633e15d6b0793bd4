use borrow.Author.Rules.{rules}
use Rattle.names.proofs.Naming.{string_6, string_beyond, start_fits, end_inside, string_found, string_endless}
use Rattle.names.proofs.strings.string_at.Statement.{statement}
use Rattle.names.proofs.strings.string_at.Tie as tie

pub string_at_spec : {M : Type 1} → statement M
string_at_spec =
    tie.close
    (tie.spec
    (λ c κs. search rules)  -- is_inside-requires
    (λ c. search string_beyond)  -- returns
    (λ c. search start_fits)  -- add-start
    (λ c κs. search end_inside)  -- find_end-requires
    (λ c. search rules)  -- enum-known-end
    (λ c. search rules)  -- enum-told
    (λ c. search string_found)  -- returns-2
    (λ c. search string_endless)  -- returns-3
    (λ c. search string_6))  -- returns-4

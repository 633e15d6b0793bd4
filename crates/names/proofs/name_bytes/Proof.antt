use borrow.Author.Rules.{rules}
use Rattle.names.proofs.Naming.{name_part, name_stands, span_found, span_empty}
use Rattle.names.proofs.name_bytes.Statement.{statement}
use Rattle.names.proofs.name_bytes.Tie as tie

pub name_bytes_spec : {M : Type 1} → statement M
name_bytes_spec =
    tie.close
    (tie.spec
    (λ c κs. search rules)  -- get_name-requires
    (λ c. search rules)  -- enum-known-named
    (λ c κs. search rules)  -- part_of-requires
    (λ c. search rules)  -- enum-told
    (λ c κs. search rules)  -- part_of-requires-2
    (λ c. search (name_part, name_stands, span_found))  -- returns
    (λ c. search (name_part, name_stands, span_empty)))  -- returns-2

use Rattle.lookup.proofs.ServedBy.{served_in_steps}
use Rattle.why.proofs.Ordered.{some_served, none_served}
use borrow.Author.Rules.{rules}
use Rattle.why.proofs.reasons.reason_of.Statement.{statement}
use Rattle.why.proofs.reasons.reason_of.Tie as tie

pub reason_of_spec : {M : Type 1} → statement M
reason_of_spec =
    tie.close
    (tie.spec
    (λ c κs. search rules)  -- glyph_of-requires
    (λ c κs. search rules)  -- or_stand_in-requires
    (λ c. search rules)  -- enum-known-served
    (λ c κs. search rules)  -- glyph_reason-requires
    (λ c. search rules)  -- enum-told
    (λ c κs. search rules)  -- code_reason-requires
    (λ c. search (some_served, served_in_steps))  -- returns
    (λ c. search (none_served, served_in_steps)))  -- returns-2

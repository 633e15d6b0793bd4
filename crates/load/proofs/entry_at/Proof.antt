use borrow.Author.Rules.{rules}
use Rattle.load.proofs.Loading.{entry_read}
use Rattle.load.proofs.entry_at.Statement.{statement}
use Rattle.load.proofs.entry_at.Tie as tie

pub entry_at_spec : {M : Type 1} → statement M
entry_at_spec =
    tie.close
    (tie.spec
    (λ c. search rules)  -- mul-at
    (λ c. search rules)  -- add-at
    (λ c κs. search rules)  -- u32_at-requires
    (λ c κs. search rules)  -- u32_at-requires-2
    (λ c κs. search rules)  -- u32_at-requires-3
    (λ c κs. search rules)  -- u32_at-requires-4
    (λ c κs. search rules)  -- entry_of-requires
    (λ c. search entry_read))  -- returns

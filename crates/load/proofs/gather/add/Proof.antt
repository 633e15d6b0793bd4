use borrow.Author.Rules.{rules}
use Rattle.load.proofs.Loading.{as_read}
use Rattle.load.proofs.gather.add.Statement.{statement}
use Rattle.load.proofs.gather.add.Tie as tie

pub add_spec : {M : Type 1} → statement M
add_spec =
    tie.close
    (tie.spec
    (λ c. search rules)  -- enum-known-read
    (λ c. search rules)  -- enum-known-read-2
    (λ c. search rules)  -- enum-known-read-3
    (λ c. search rules)  -- enum-known-read-4
    (λ c. search rules)  -- enum-known-read-5
    (λ c. search rules)  -- enum-known-read-6
    (λ c. search rules)  -- enum-told
    (λ c. search rules)  -- enum-known-read-7
    (λ c. search as_read)  -- returns
    (λ c. search as_read)  -- returns-2
    (λ c. search as_read)  -- returns-3
    (λ c. search as_read)  -- returns-4
    (λ c. search as_read)  -- returns-5
    (λ c. search as_read)  -- returns-6
    (λ c. search as_read)  -- returns-7
    (λ c. search as_read))  -- returns-8

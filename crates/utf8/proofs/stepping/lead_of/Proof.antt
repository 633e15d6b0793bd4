-- The tests ask for the first bytes in order, so each return stands between two neighbours of the table: one law for each line.
use Rattle.utf8.proofs.Leads.{ascii, from_80, from_c2, from_e0, from_e1, from_ed, from_ee, from_f0, from_f1, from_f4, from_f5}
use borrow.Author.Rules.{rules}
use Rattle.utf8.proofs.stepping.lead_of.Statement.{statement}
use Rattle.utf8.proofs.stepping.lead_of.Tie as tie

pub lead_of_spec : {M : Type 1} → statement M
lead_of_spec =
    tie.close
    (tie.spec
    (λ c κs. search rules)  -- line-requires
    (λ c. search ascii)  -- returns
    (λ c κs. search rules)  -- line-requires-2
    (λ c. search from_80)  -- returns-2
    (λ c κs. search rules)  -- line-requires-3
    (λ c. search from_c2)  -- returns-3
    (λ c κs. search rules)  -- line-requires-4
    (λ c. search from_e0)  -- returns-4
    (λ c κs. search rules)  -- line-requires-5
    (λ c. search from_e1)  -- returns-5
    (λ c κs. search rules)  -- line-requires-6
    (λ c. search from_ed)  -- returns-6
    (λ c κs. search rules)  -- line-requires-7
    (λ c. search from_ee)  -- returns-7
    (λ c κs. search rules)  -- line-requires-8
    (λ c. search from_f0)  -- returns-8
    (λ c κs. search rules)  -- line-requires-9
    (λ c. search from_f1)  -- returns-9
    (λ c κs. search rules)  -- line-requires-10
    (λ c. search from_f4)  -- returns-10
    (λ c κs. search rules)  -- line-requires-11
    (λ c. search from_f5))  -- returns-11

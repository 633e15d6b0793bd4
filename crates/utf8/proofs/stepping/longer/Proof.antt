-- Each byte more that continues the character gives the code six bits more; the first that does not leaves no character.
use Rattle.utf8.proofs.Steps.{longer_two, third_none, longer_three, fourth_none, longer_four}
use borrow.Author.Rules.{rules}
use Rattle.utf8.proofs.stepping.longer.Statement.{statement}
use Rattle.utf8.proofs.stepping.longer.Tie as tie

pub longer_spec : {M : Type 1} → statement M
longer_spec =
    tie.close
    (tie.spec
    (λ c. search rules)  -- cast-six-more
    (λ c κs. search rules)  -- six_more-requires
    (λ c. search rules)  -- add-t14
    (λ c. search longer_two)  -- returns
    (λ c κs. search rules)  -- continues-requires
    (λ c κs. search rules)  -- ill_formed-requires
    (λ c. search third_none)  -- returns-2
    (λ c. search rules)  -- cast-six-more-2
    (λ c κs. search rules)  -- six_more-requires-2
    (λ c κs. search rules)  -- six_more-requires-3
    (λ c. search rules)  -- add-t20
    (λ c. search longer_three)  -- returns-3
    (λ c κs. search rules)  -- continues-requires-2
    (λ c κs. search rules)  -- ill_formed-requires-2
    (λ c. search fourth_none)  -- returns-4
    (λ c. search rules)  -- cast-six-more-3
    (λ c κs. search rules)  -- six_more-requires-4
    (λ c κs. search rules)  -- six_more-requires-5
    (λ c κs. search rules)  -- six_more-requires-6
    (λ c. search rules)  -- add-t26
    (λ c. search longer_four))  -- returns-5

use borrow.Author.Rules.{rules}
use Rattle.load.proofs.Loading.{word_compared, not_asked}
use Rattle.load.proofs.format_refused.Statement.{statement}
use Rattle.load.proofs.format_refused.Tie as tie

pub format_refused_spec : {M : Type 1} → statement M
format_refused_spec =
    tie.close
    (tie.spec
    (λ c κs. search rules)  -- u32_at-requires
    (λ c κs. search rules)  -- known_type-requires
    (λ c. search rules)  -- add
    (λ c. search word_compared)  -- returns
    (λ c. search not_asked))  -- returns-2

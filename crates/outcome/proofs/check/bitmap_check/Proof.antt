use Rattle.outcome.proofs.Ready.{bitmap_refused, bitmap_drawn, width_fits, height_fits, stride_fits, scale_fits}
use borrow.Author.Rules.{rules}
use Rattle.outcome.proofs.check.bitmap_check.Statement.{statement}
use Rattle.outcome.proofs.check.bitmap_check.Tie as tie

pub bitmap_check_spec : {M : Type 1} → statement M
bitmap_check_spec =
    tie.close
    (tie.spec
    (λ c κs. search rules)  -- bitmap_ready-requires
    (λ c. search rules)  -- enum-told
    (λ c. search width_fits)  -- cast-shown-at
    (λ c. search height_fits)  -- cast-shown-at-2
    (λ c. search stride_fits)  -- cast-shown-at-3
    (λ c. search scale_fits)  -- cast-shown-at-4
    (λ c κs. search rules)  -- shown_at-requires
    (λ c. search rules)  -- enum-known-permit
    (λ c. search bitmap_drawn)  -- returns
    (λ c. search bitmap_refused))  -- returns-2

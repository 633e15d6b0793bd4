use Rattle.why.proofs.Ordered.{no_metrics_lem, some_box, bad_metrics}
use borrow.Author.Rules.{rules}
use Rattle.why.proofs.reasons.glyph_reason.Statement.{statement}
use Rattle.why.proofs.reasons.glyph_reason.Tie as tie

pub glyph_reason_spec : {M : Type 1} → statement M
glyph_reason_spec =
    tie.close
    (tie.spec
    (λ c κs. search rules)  -- info_of-requires
    (λ c. search rules)  -- enum-known-prepared
    (λ c κs. search rules)  -- placed_reason-requires
    (λ c. search rules)  -- enum-known-prepared-2
    (λ c. search no_metrics_lem)  -- returns
    (λ c. search some_box)  -- returns-2
    (λ c. search bad_metrics))  -- returns-3

use Rattle.thalluskin.proofs.Strides.{stride_known, stride_unknown}
use borrow.Author.Rules.{rules}
use Rattle.thalluskin.proofs.pages.stride_of.Statement.{statement}
use Rattle.thalluskin.proofs.pages.stride_of.Tie as tie

pub stride_of_spec : {M : Type 1} → statement M
stride_of_spec =
    tie.close
    (tie.spec
    (λ c κs. search rules)  -- is_known-requires
    (λ c. search stride_known)  -- returns
    (λ c. search stride_unknown))  -- returns-2

use native.Mathlib.Nat.{add-zero}
use borrow.Author.Rules.{rules}
use Rattle.tables.proofs.format.format_at.Statement.{statement}
use Rattle.tables.proofs.format.format_at.Tie as tie

pub format_at_spec : {M : Type 1} → statement M
format_at_spec =
    tie.close
    (tie.spec
    (λ c κs. search rules)  -- u32_at-requires
    (λ c. (simp (add-zero) at c.u32_at.ensures)))  -- returns

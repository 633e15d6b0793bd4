use Prim.Native.Nat.{ℕ, ◌+◌}
use mathlib.Core.Path.{◌≡◌}
use mathlib.Core.Bool.{Bool, true, false}
use mathlib.Core.List.{List}
use borrow.Author.Rules.{rules}
use Rattle.reads.specs.Num.{u16_at, u32_at}
use Rattle.tables.specs.Metrics.{metric_count}
use Rattle.tables.proofs.metrics_table.metric_count.Statement.{statement}
use Rattle.tables.proofs.metrics_table.metric_count.Tie as tie

module _ (s : List ℕ) (at r : ℕ) (compressed big : Bool) where
  narrow-count : compressed ≡ true → r ≡ u16_at big s (at + 4) → r ≡ metric_count compressed big s at
  narrow-count e is = rw e is

  wide-count : compressed ≡ false → r ≡ u32_at big s (at + 4) → r ≡ metric_count compressed big s at
  wide-count e is = rw e is

pub metric_count_spec : {M : Type 1} → statement M
metric_count_spec =
    tie.close
    (tie.spec
    (λ c κs. search rules)  -- u16_at-requires
    (λ c. search rules)  -- cast-result
    (λ c κs. search rules)  -- u32_at-requires
    (λ c. search narrow-count)  -- returns
    (λ c. search wide-count))  -- returns-2

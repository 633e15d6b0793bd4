use Prim.Native.Nat.{ℕ, ◌*◌}
use mathlib.Core.Path.{◌≡◌}
use mathlib.Core.Bool.{Bool}
use borrow.Author.Rules.{rules}
use Rattle.tables.specs.Metrics.{metric_bytes}
use Rattle.tables.specs.Fits.{inside, metrics_fit}
use Rattle.tables.specs.declared.MetricsData.{MetricsData}
use Rattle.tables.proofs.Sizes.{metrics_small}
use Rattle.tables.proofs.fits.metrics_fit.Statement.{statement}
use Rattle.tables.proofs.fits.metrics_fit.Tie as tie

region : (len per : ℕ) (m : MetricsData) (r : Bool) → per ≡ metric_bytes m.compressed → r ≡ inside len m.records (per * m.count) → r ≡ metrics_fit len m
unfolding metrics_fit
region len per m r per-is is = rw (← per-is) is

pub metrics_fit_spec : {M : Type 1} → statement M
metrics_fit_spec =
    tie.close
    (tie.spec
    (λ c κs. search rules)  -- metric_bytes-requires
    (λ c. search rules)  -- cast-is-inside
    (λ c. search metrics_small)  -- mul-is-inside
    (λ c κs. search rules)  -- is_inside-requires
    (λ c. search region))  -- returns

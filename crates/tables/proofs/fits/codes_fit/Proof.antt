use Prim.Native.Nat.{ℕ, ◌*◌}
use mathlib.Core.Path.{◌≡◌}
use mathlib.Core.Bool.{Bool, ◌&&◌}
use lib.Dec.{leb}
use borrow.Author.Rules.{rules}
use Rattle.tables.specs.Codes.{entry_count}
use Rattle.tables.specs.Fits.{inside, codes_fit}
use Rattle.tables.specs.declared.EncodingData.{EncodingData}
use Rattle.tables.proofs.fits.codes_fit.Statement.{statement}
use Rattle.tables.proofs.fits.codes_fit.Tie as tie

tests : (len count : ℕ) (t : EncodingData) (room : Bool) → room ≡ inside len t.entries t.size → count ≡ entry_count t.low2 t.high2 t.low1 t.high1
    → (room && leb t.low2 t.high2 && leb t.low1 t.high1 && leb (2 * count) t.size) ≡ codes_fit len t
unfolding codes_fit
tests len count t room room-is count-is = rw (room-is, count-is)

pub codes_fit_spec : {M : Type 1} → statement M
codes_fit_spec =
    tie.close
    (tie.spec
    (λ c κs. search rules)  -- is_inside-requires
    (λ c κs. search rules)  -- entry_count-requires
    (λ c. search rules)  -- mul-needed
    (λ c. search tests))  -- returns

use Prim.Native.Nat.{ℕ, ◌+◌}
use mathlib.Core.Path.{◌≡◌}
use mathlib.Core.Bool.{Bool}
use native.Mathlib.Nat.{add-zero}
use lib.Dec.{leb}
use borrow.Author.Rules.{rules}
use Rattle.tables.specs.Fits.{inside}
use Rattle.tables.proofs.fits.is_inside.Statement.{statement}
use Rattle.tables.proofs.fits.is_inside.Tie as tie

from_start : (len start size : ℕ) (r : Bool) → r ≡ leb (start + 0 + size) len → r ≡ inside len start size
from_start len start size r is = rw add-zero at is

pub is_inside_spec : {M : Type 1} → statement M
is_inside_spec =
    tie.close
    (tie.spec
    (λ c κs. search rules)  -- lies_in-requires
    (λ c. search from_start))  -- returns

use Prim.Native.Nat.{ℕ, ◌-◌, ◌/◌, ◌%◌, ◌<◌}
use mathlib.Core.Path.{◌≡◌, refl}
use native.Mathlib.Omega.{arith}
use lib.Dec.{eqb}
use Rattle.bitmaps.specs.Rows.{column}
use borrow.Author.Rules.{rules}
use Rattle.bitmaps.proofs.units.bit_of.Statement.{statement}
use Rattle.bitmaps.proofs.units.bit_of.Tie as tie

lowest-bit : (byte k : ℕ) → 7 < k → eqb (byte % 2) 1 ≡ column byte k
unfolding column
lowest-bit byte k h =
    let none : 7 - k ≡ 0 = omega arith in
    let whole : byte / 1 ≡ byte = omega arith in
    rw (none, whole) refl

pub bit_of_spec : {M : Type 1} → statement M
unfolding column
bit_of_spec =
    tie.close
    (tie.spec
    (λ c. search lowest-bit)  -- returns
    (λ c. search rules)  -- cast-result
    (λ c. search rules)  -- shr-result
    (λ c. search rules))  -- returns-2

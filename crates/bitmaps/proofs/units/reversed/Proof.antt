use Prim.Native.Nat.{ℕ, ◌+◌, ◌*◌, ◌/◌, ◌%◌, ◌<◌}
use mathlib.Core.Path.{◌≡◌, refl}
use native.Mathlib.Omega.{arith}
use lib.Dec.{eqb, ltb}
use mir.Syntax.{w8}
use mir.Val.{Fits}
use borrow.Author.Tests.{eqb-true, ltb-true}
use Rattle.bitmaps.specs.Paint.{some}
use Rattle.bitmaps.specs.Units.{packed, turned}
use Rattle.bitmaps.proofs.Searching.{below_test}
use borrow.Author.Rules.{rules}
use Rattle.bitmaps.proofs.units.reversed.Statement.{statement}
use Rattle.bitmaps.proofs.units.reversed.Tie as tie

half-small : (n : ℕ) → n < 16 → turned 4 n < 16
unfolding some packed turned
half-small n h = ltb-true (turned 4 n) 16 (below_test 16 (λ n. ltb (turned 4 n) 16) refl n h)

-- a byte in the other order is its halves in the other order, and changed about
by-halves : (b : ℕ) → b < 256 → turned 4 (b % 16) * 16 + turned 4 (b / 16) ≡ turned 8 b
unfolding some packed turned
by-halves b h =
    eqb-true (turned 4 (b % 16) * 16 + turned 4 (b / 16)) (turned 8 b)
    (below_test 256 (λ b. eqb (turned 4 (b % 16) * 16 + turned 4 (b / 16)) (turned 8 b)) refl b h)

module _ (b low high : ℕ) (h : b < 256) (low-is : low ≡ turned 4 (b % 16)) where
  shifted_fits : Fits w8 (low * 16)
  shifted_fits = omega (arith, low-is, half-small (b % 16) (omega arith))

  module _ (high_is : high ≡ turned 4 (b / 16)) where
    sum_fits : Fits w8 (low * 16 + high)
    sum_fits = omega (arith, low-is, half-small (b % 16) (omega arith), high_is, half-small (b / 16) (omega arith))

    both_halves : low * 16 + high ≡ turned 8 b
    both_halves = rw (low-is, high_is) (by-halves b h)

pub reversed_spec : {M : Type 1} → statement M
reversed_spec =
    tie.close
    (tie.spec
    (λ c. search rules)  -- cast-reversed-half
    (λ c κs. search rules)  -- reversed_half-requires
    (λ c. search rules)  -- cast-reversed-half-2
    (λ c κs. search rules)  -- reversed_half-requires-2
    (λ c. search shifted_fits)  -- mul-result
    (λ c. search sum_fits)  -- add-result
    (λ c. search both_halves))  -- returns

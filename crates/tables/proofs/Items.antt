-- A region of `count` items of `size` bytes each that lies inside the bytes: so does each of its items.
use mathlib.Core.Path.{◌≡◌}
use mathlib.Core.Bool.{true}
use Prim.Native.Nat.{ℕ, ◌+◌, ◌*◌, ◌≤◌, ◌<◌}
use native.Mathlib.Nat.{mul-le-mul, mul-suc}
use native.Mathlib.Numerals.{add-one}
use native.Mathlib.Omega.{arith}
use borrow.Author.Tests.{leb-true}
use Rattle.tables.specs.Fits.{inside}

pub item_inside : (len start size count i : ℕ) → inside len start (size * count) ≡ true → i < count → start + size * i + size ≤ len
item_inside len start size count i e h =
    let upto : size * (i + 1) ≤ size * count = mul-le-mul {n₁ = size} {m₁ = i + 1} {n₂ = size} {m₂ = count} (omega arith) (omega arith) in
    let last : size * (i + 1) ≡ size * i + size = rw (add-one, mul-suc size i) in
    omega (arith, leb-true (start + size * count) len e)

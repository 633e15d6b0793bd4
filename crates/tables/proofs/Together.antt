-- What is put together of equal parts is equal.
use Prim.Native.Nat.{ℕ, ◌*◌}
use mathlib.Core.Path.{◌≡◌}
use mathlib.Core.Bool.{Bool, ◌&&◌}

pub both_are : (a b x y : Bool) → a ≡ x → b ≡ y → (a && b) ≡ (x && y)
both_are a b x y e f = rw (e, f)

pub product_is : (a b x y : ℕ) → a ≡ x → b ≡ y → a * b ≡ x * y
product_is a b x y e f = rw (e, f)

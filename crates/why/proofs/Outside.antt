-- Which codes lie outside a code table's bounds, by the tests that the code makes.
use Prim.Native.Nat.{ℕ, ◌/◌, ◌%◌}
use mathlib.Core.Path.{◌≡◌, refl}
use mathlib.Core.Bool.{Bool, true, false, not, ◌||◌}
use lib.Dec.{leb, ltb}
use borrow.Author.Tests.{lt-ltb, le-ltb, leb-true, leb-false}
use Rattle.reads.specs.Range.{between}
use Rattle.reads.proofs.Tests.{split}
use Rattle.tables.specs.declared.EncodingData.{EncodingData}
use Rattle.lookup.specs.Lookup.{one_byte}
use Rattle.why.specs.Codes.{second_byte, first_outside, second_outside}

-- a number outside its bounds lies below the one or above the other
outside_is : (low high n : ℕ) → ltb n low || ltb high n ≡ not (between low high n)
outside_is low high n =
    split (leb low n)
    (λ t.
    split (leb n high)
    (λ u. rw (t, u, le-ltb n low (leb-true low n t), le-ltb high n (leb-true n high u)))
    (λ u. rw (t, u, le-ltb n low (leb-true low n t), lt-ltb high n (leb-false n high u))))
    (λ t. rw (t, lt-ltb n low (leb-false low n t)))

module _ (c : EncodingData) (code : ℕ) (one : Bool) (one-is : one ≡ one_byte c) where
  pub first_none : one ≡ true → false ≡ first_outside c code
  unfolding first_outside
  first_none e = rw (← one-is, e)

  pub first_two : one ≡ false → ltb (code / 256) c.low1 || ltb c.high1 (code / 256) ≡ first_outside c code
  unfolding first_outside
  first_two e = rw (← one-is, e) (outside_is c.low1 c.high1 (code / 256))

  pub second_whole : one ≡ true → code ≡ second_byte c code
  second_whole e = rw (← one-is, e) refl

  pub second_of_two : one ≡ false → code % 256 ≡ second_byte c code
  second_of_two e = rw (← one-is, e) refl

pub second_out : (c : EncodingData) (code n : ℕ) → n ≡ second_byte c code → ltb n c.low2 || ltb c.high2 n ≡ second_outside c code
unfolding second_outside
second_out c code n e = rw (← e) (outside_is c.low2 c.high2 n)

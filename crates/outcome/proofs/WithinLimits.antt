-- What it tells that arguments are within their limits.
use Prim.Native.Nat.{ℕ, ◌≤◌}
use mathlib.Core.Path.{◌≡◌}
use mathlib.Core.Bool.{true, ◌&&◌}
use lib.Dec.{leb}
use borrow.Author.Tests.{leb-true}
use Rattle.reads.proofs.Tests.{both}
use Rattle.bitmaps.specs.Place.{place_at}
use Rattle.bitmaps.specs.Limits.{ok_place, ok_pair}

pub place_limits : (start stride scale : ℕ) → ok_place (place_at start stride scale) ≡ true
    → (start ≤ 2147483647) × (1 ≤ stride) × (stride ≤ 65535) × (1 ≤ scale) × (scale ≤ 64)
place_limits start stride scale e =
    let (a, b) = both (leb start 2147483647 && (leb 1 stride && leb stride 65535)) (leb 1 scale && leb scale 64) e in
    let (f, g) = both (leb start 2147483647) (leb 1 stride && leb stride 65535) a in
    let (h, i) = both (leb 1 stride) (leb stride 65535) g in
    let (j, k) = both (leb 1 scale) (leb scale 64) b in
    (leb-true start 2147483647 f, leb-true 1 stride h, leb-true stride 65535 i, leb-true 1 scale j, leb-true scale 64 k)

pub pair_limits : (a b : ℕ) → ok_pair a b ≡ true → (a ≤ 32767) × (b ≤ 32767)
pair_limits a b e = let (f, g) = both (leb a 32767) (leb b 32767) e in (leb-true a 32767 f, leb-true b 32767 g)

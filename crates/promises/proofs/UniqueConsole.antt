-- Of the functions that the programs share: each contract determines the answer, and what is left in a buffer.
use mathlib.Core.Path.{◌≡◌, refl, sym, ap, ◌∙◌}
use Rattle.std.specs.Prelude.{Option, Some, None, SomeIff}
use mathlib.Core.List.{List}
use Prim.Native.Nat.{ℕ}
use native.Mathlib.Omega.{arith}
use lib.Seq.{ext_get_or}
use Rattle.console.specs.Before.{Filled}
use Rattle.promises.specs.Unique.{Fixes, FixesLent}
use Rattle.console.proofs.fill_pixels.Kinds as pixels-kinds
use Rattle.console.proofs.fill_pixels.Reads as pixels-reads
use Rattle.console.proofs.fill_bytes.Kinds as bytes-kinds
use Rattle.console.proofs.fill_bytes.Reads as bytes-reads
use Rattle.console.proofs.unseen.Kinds as unseen-kinds
use Rattle.console.proofs.unseen.Reads as unseen-reads
use Rattle.console.proofs.seen.Kinds as seen-kinds
use Rattle.console.proofs.seen.Reads as seen-reads
use Rattle.console.proofs.number_in.Kinds as number_in-kinds
use Rattle.console.proofs.number_in.Reads as number_in-reads
use Rattle.console.proofs.area.Kinds as area-kinds
use Rattle.console.proofs.area.Reads as area-reads

same_filled : {old l₁ l₂ : List ℕ} → Filled old l₁ → Filled old l₂ → l₁ ≡ l₂
same_filled {old} {l₁} {l₂} p q =
    let same = p.same_length ∙ sym q.same_length in
    ext_get_or 0 l₁ l₂ same (λ i below. p.each i below ∙ sym (q.each i (omega arith)))

pub pixels_unique : FixesLent 1 pixels-kinds.ps pixels-kinds.r pixels-reads.Post (λ κs x. x.0.now)
pixels_unique κs a r₁ r₂ x₁ x₂ p q = (refl, same_filled p q)

pub bytes_unique : FixesLent 1 bytes-kinds.ps bytes-kinds.r bytes-reads.Post (λ κs x. x.0.now)
bytes_unique κs a r₁ r₂ x₁ x₂ p q = (refl, same_filled p q)

pub unseen_unique : Fixes 0 unseen-kinds.ps unseen-kinds.r unseen-reads.Post
unseen_unique κs a r₁ r₂ x₁ x₂ p q = p ∙ sym q

same_some : (P : Type 0) (v : ℕ) (o₁ o₂ : Option ℕ) → SomeIff o₁ P v → SomeIff o₂ P v → o₁ ≡ o₂
same_some P v None None p q = refl
same_some P v None (Some y) p (holds, is) = absurd (p holds)
same_some P v (Some x) None (holds, is) q = absurd (q holds)
same_some P v (Some x) (Some y) (_, is) (_, too) = ap Some (is ∙ sym too)

pub seen_unique : Fixes 0 seen-kinds.ps seen-kinds.r seen-reads.Post
seen_unique κs a r₁ r₂ x₁ x₂ p q = same_some _ _ _ _ p q

pub number_in_unique : Fixes 1 number_in-kinds.ps number_in-kinds.r number_in-reads.Post
number_in_unique κs a r₁ r₂ x₁ x₂ p q = p ∙ sym q

pub area_unique : Fixes 0 area-kinds.ps area-kinds.r area-reads.Post
area_unique κs a r₁ r₂ x₁ x₂ p q = p ∙ sym q

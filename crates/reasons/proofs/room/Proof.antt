use mathlib.Core.Path.{sym}
use Prim.Native.Nat.{ℕ}
use lib.ListN.{length-replicate}
use Rattle.reasons.proofs.room.Statement.{statement}
use Rattle.reasons.proofs.room.Tie as tie

pub room_spec : {M : Type 1} → statement M
room_spec =
    tie.close
    (tie.spec
    (λ c. sym (length-replicate {0} {A = ℕ} 639013 0)))  -- returns

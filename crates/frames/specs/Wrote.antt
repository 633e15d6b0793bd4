-- What a line has more: these characters, stored from one place up to the next, in the same buffer.
use Rattle.std.specs.Prelude.{ℕ, ◌≡◌, List}
use Rattle.std.specs.Borrow.{MutBor}
use Rattle.frames.specs.Put.{Put}

pub record Wrote (before : MutBor (List ℕ)) (at : ℕ) (vs : List ℕ) (after : MutBor (List ℕ)) (next : ℕ) : Type 0 where
  pub same_buffer : after.ghost_name ≡ before.ghost_name
  pub put : Put before.now at vs next after.now

-- Quoted text as its characters' codes.
use Rattle.std.specs.Prelude.{ℕ, List, [], ◌∷◌}
use Prim.Native.Char.{code}
use Prim.Native.String.{String, [] as no_more, ◌∷◌ as ◌then◌}

abbrev pub typed : String → List ℕ
typed no_more = []
typed (◌then◌ c cs) = code c ∷ typed cs

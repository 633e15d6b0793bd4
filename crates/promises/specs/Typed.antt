-- Quoted text as the characters' codes, so that a font and what is printed of it can stand here as document 01 prints them.
use Rattle.std.specs.Prelude.{ℕ, List, [], ◌∷◌, ◌++◌}
use Prim.Native.Char.{code}
use Prim.Native.String.{String, [] as no_more, ◌∷◌ as ◌then◌}

unfoldable pub typed : String → List ℕ
typed no_more = []
typed (◌then◌ c cs) = code c ∷ typed cs

-- lines, each ended by a newline
unfoldable pub typed_lines : List String → List ℕ
typed_lines [] = []
typed_lines (l ∷ ls) = typed l ++ (10 ∷ typed_lines ls)

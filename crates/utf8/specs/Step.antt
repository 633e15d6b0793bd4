-- The character at a place of a text, "as Unicode defines it": the bytes fit a line of the table, and make a code. From document 01,
-- refusal 19 and its place.
use Rattle.std.specs.Prelude.{ℕ, ◌+◌, ◌*◌, ◌%◌, cond, List, [], ◌∷◌, length, ltb, eqb, pos}
use Rattle.reads.specs.Num.{byte_at}
use Rattle.reads.specs.Range.{between}
use Rattle.reads.specs.Said.{Said, refusal, says, refuses}
use Rattle.utf8.specs.Table.{lead_of, continues}
use Rattle.utf8.specs.declared.Step.{Step}

abbrev pub char : ℕ → ℕ → Step
char code next = Step.Char (record { 0 = code }) next

abbrev pub ill_formed : ℕ → Step
ill_formed i = Step.Refused (refusal 19 i)

-- the character at i of n bytes, 2 to 4, of which the first two fit their line; its code is that of Table 3-6, which `spells` proves
unfoldable pub longer : ℕ → ℕ → ℕ → ℕ → ℕ → ℕ → Step
longer i n b₁ b₂ b₃ b₄ =
    cond (eqb n 2) (char (b₁ % 32 * 64 + b₂ % 64) (i + 2))
    (cond (continues b₃)
    (cond (eqb n 3) (char (b₁ % 16 * 4096 + b₂ % 64 * 64 + b₃ % 64) (i + 3))
    (cond (continues b₄) (char (b₁ % 8 * 262144 + b₂ % 64 * 4096 + b₃ % 64 * 64 + b₄ % 64) (i + 4))
    (ill_formed i)))
    (ill_formed i))

-- the character at i, the end, or 19. A byte past the text's end is 0, which continues no character.
unfoldable pub step_at : List ℕ → ℕ → Step
step_at s i =
    let b₁ = byte_at s i in
    let b₂ = byte_at s (i + 1) in
    let l = lead_of b₁ in
    cond (ltb i (length s))
    (cond (eqb l.size 0) (ill_formed i)
    (cond (eqb l.size 1) (char b₁ (i + 1))
    (cond (between l.low l.high b₂) (longer i l.size b₁ b₂ (byte_at s (i + 2)) (byte_at s (i + 3)))
    (ill_formed i))))
    Step.End

-- 1, the code and the next place; or 0 for the end
abbrev pub said_step : Step → Said
said_step (Step.Char c next) = says (pos 1 ∷ pos c.0 ∷ pos next ∷ [])
said_step Step.End = says (pos 0 ∷ [])
said_step (Step.Refused r) = refuses r

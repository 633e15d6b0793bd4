use borrow.Author.Rules.{rules}
use Rattle.load.proofs.Loading.{too_short, no_font, too_many, directory_past, entries_read}
use Rattle.load.proofs.load_in.Statement.{statement}
use Rattle.load.proofs.load_in.Tie as tie

pub load_in_spec : {M : Type 1} → statement M
load_in_spec =
    tie.close
    (tie.spec
    (λ c. search too_short)  -- returns
    (λ c κs. search rules)  -- u32_at-requires
    (λ c. search no_font)  -- returns-2
    (λ c κs. search rules)  -- u32_at-requires-2
    (λ c. search rules)  -- cast-count
    (λ c. search too_many)  -- returns-3
    (λ c. search rules)  -- mul-if4
    (λ c. search rules)  -- add-if4
    (λ c. search directory_past)  -- returns-4
    (λ c κs. search rules)  -- all_entries-requires
    (λ c. search entries_read))  -- returns-5

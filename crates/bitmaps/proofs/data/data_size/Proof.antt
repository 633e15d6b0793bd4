use Rattle.bitmaps.proofs.DataBytes.{behind_the_file, cut_by_the_file, in_the_file}
use borrow.Author.Rules.{rules}
use Rattle.bitmaps.proofs.data.data_size.Statement.{statement}
use Rattle.bitmaps.proofs.data.data_size.Tie as tie

pub data_size_spec : {M : Type 1} → statement M
data_size_spec =
    tie.close
    (tie.spec
    (λ c. search behind_the_file)  -- returns
    (λ c. search rules)  -- sub-left
    (λ c. search cut_by_the_file)  -- returns-2
    (λ c. search in_the_file))  -- returns-3

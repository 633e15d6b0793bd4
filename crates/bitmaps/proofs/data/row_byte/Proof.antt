use Rattle.bitmaps.proofs.DataBytes.{row_past_data, from_fits, end_fits, data_in_file, from_row}
use borrow.Author.Rules.{rules}
use Rattle.bitmaps.proofs.data.row_byte.Statement.{statement}
use Rattle.bitmaps.proofs.data.row_byte.Tie as tie

pub row_byte_spec : {M : Type 1} → statement M
row_byte_spec =
    tie.close
    (tie.spec
    (λ c κs. search rules)  -- data_size-requires
    (λ c. search row_past_data)  -- returns
    (λ c. search from_fits)  -- add-from
    (λ c. search end_fits)  -- add-end
    (λ c. search rules)  -- sub-read-byte
    (λ c. search rules)  -- part-read-byte-start
    (λ c. search data_in_file)  -- part-read-byte-end
    (λ c κs. search rules)  -- order_of-requires
    (λ c κs. search rules)  -- read_byte-requires
    (λ c. search from_row))  -- returns-2

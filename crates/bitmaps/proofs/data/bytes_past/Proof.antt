use Rattle.bitmaps.proofs.LastByte.{no_rows, no_columns, rows_before_fit, last_row_fits, last_byte_fits, by_last_byte}
use borrow.Author.Rules.{rules}
use Rattle.bitmaps.proofs.data.bytes_past.Statement.{statement}
use Rattle.bitmaps.proofs.data.bytes_past.Tie as tie

pub bytes_past_spec : {M : Type 1} → statement M
bytes_past_spec =
    tie.close
    (tie.spec
    (λ c. search no_rows)  -- returns
    (λ c. search no_columns)  -- returns-2
    (λ c. search rules)  -- sub-rows
    (λ c. search rows_before_fit)  -- mul-rows
    (λ c κs. search rules)  -- order_of-requires
    (λ c κs. search rules)  -- row_end-requires
    (λ c. search rules)  -- cast-end
    (λ c κs. search rules)  -- data_size-requires
    (λ c. search last_row_fits)  -- add-result
    (λ c. search last_byte_fits)  -- add-result-2
    (λ c. search by_last_byte))  -- returns-3

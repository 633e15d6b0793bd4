-- A place of a function's code, found by its type: `known tie.Start (search)` is the entry's record, wherever it is asked.

abbrev pub known {ℓ} : (P : Type ℓ) → P → P
known P c = c

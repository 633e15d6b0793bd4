-- Every whole byte of the rows, strip by strip: all eight columns of each count, and at scale 1 strip j begins at place 8 × j.
use Prim.Native.Nat.{ℕ, ◌+◌, ◌*◌, ◌≤◌, ◌<◌}
use mathlib.Core.Path.{◌≡◌}
use mathlib.Core.Bool.{false}
use mathlib.Core.List.{List}
use native.Mathlib.Nat.{mul-one}
use native.Mathlib.Omega.{arith}
use lib.ListN.{length}
use Rattle.reads.specs.Num.{Octets}
use Rattle.bitmaps.specs.Place.{place_at}
use Rattle.bitmaps.specs.Paint.{painted}
use Rattle.bitmaps.specs.Units.{byte_of}
use Rattle.bitmaps.specs.Rows.{row_bytes}
use Rattle.bitmaps.specs.Unpack.{whole_columns}
use Rattle.bitmaps.specs.Ink.{in_rows, rows_past, row_bits, byte_bits}
use Rattle.bitmaps.specs.declared.Order.{Order}
use Rattle.bitmaps.proofs.Strips.{Stripped, strip_room, strip_more, all_strips}

module _ (s : List ℕ) (o : Order) (first step stride width n : ℕ) (old buf : List ℕ) (j count : ℕ) where
  pub whole_rows : Stripped s o first step stride 1 (whole_columns width) n 1 old buf j → count ≡ row_bytes width → count ≤ j
      → buf ≡ painted (in_rows (row_bits s o first step) (place_at 0 stride 1) (whole_columns width) n) 1 old
  whole_rows so_far count-is h = all_strips s o first step stride 1 (whole_columns width) n 1 old buf j so_far (omega arith)

  -- strip j, which byte `held` of each row has
  module _ (held : ℕ) where
    pub whole_room : Stripped s o first step stride 1 (whole_columns width) n 1 old buf j → count ≡ row_bytes width → j < count → held ≡ byte_of o (8 * j) → Octets s
        → rows_past (row_bits s o first step) (place_at 0 stride 1) (whole_columns width) n (length old) ≡ false
        → rows_past (byte_bits s o (first + held) step) (place_at (8 * j) stride 1) 8 n (length buf) ≡ false
    whole_room so_far count-is h held-is bytes e =
        rw (mul-one (8 * j)) at
        (strip_room s o first step stride 1 (whole_columns width) n 1 old buf j so_far held 8 (omega arith) held-is bytes (omega arith) e)

    pub whole_more : (new : List ℕ) → new ≡ painted (in_rows (byte_bits s o (first + held) step) (place_at (8 * j) stride 1) 8 n) 1 buf
        → Stripped s o first step stride 1 (whole_columns width) n 1 old buf j → count ≡ row_bytes width → j < count → held ≡ byte_of o (8 * j) → Octets s
        → Stripped s o first step stride 1 (whole_columns width) n 1 old new (j + 1)
    whole_more new e so_far count-is h held-is bytes =
        strip_more s o first step stride 1 (whole_columns width) n 1 old buf j so_far held 8 (omega arith) held-is bytes (omega arith) new (rw (mul-one (8 * j)) e)

-- One byte of each row, unpacked row by row: at scale 1 a set bit is one place, and row r begins r strides on.
use Prim.Native.Nat.{ℕ, ◌+◌, ◌*◌, ◌^◌, ◌≤◌, ◌<◌}
use mathlib.Core.Path.{◌≡◌, refl, ap, ◌∙◌}
use mathlib.Core.Bool.{Bool, false, ◌&&◌}
use mathlib.Core.List.{List}
use native.Mathlib.Nat.{add-mul, mul-one, one-mul, zero-mul}
use native.Mathlib.Omega.{arith}
use lib.Dec.{eqb, leb}
use lib.ListN.{length}
use mir.Syntax.{w64}
use mir.Val.{Fits}
use Rattle.reads.specs.Num.{byte_at}
use Rattle.bitmaps.specs.Place.{place_at}
use Rattle.bitmaps.specs.Paint.{some, painted}
use Rattle.bitmaps.specs.Units.{shown_byte}
use Rattle.bitmaps.specs.Rows.{column}
use Rattle.bitmaps.specs.Dots.{block_dot, row_dot}
use Rattle.bitmaps.specs.Ink.{in_row, in_rows, row_past, rows_past, byte_bits, RowsIn}
use Rattle.bitmaps.specs.declared.Order.{Order}
use Rattle.bitmaps.proofs.Searching.{some_same}
use Rattle.bitmaps.proofs.Painting.{painted_same}
use Rattle.bitmaps.proofs.PictureRows.{Rowed, no_rows, all_rows, row_room, row_more}
use Rattle.bitmaps.proofs.Strips.{shown_bits, blank_row}
use Rattle.outcome.proofs.Sizes.{within}
use Rattle.unpack.specs.Stored.{in_bits, bits_past}

-- a set bit of row r is one place
flat_row : (bit : ℕ → Bool) (at r stride width : ℕ) (test : ℕ → Bool)
    → some width (λ c. bit c && test (at + r * stride + c)) ≡ row_dot bit (place_at (at + r * stride * 1) stride 1) width test
unfolding row_dot block_dot some
flat_row bit at r stride width test =
    some_same width (λ c. bit c && test (at + r * stride + c)) (λ c. bit c && test (at + r * stride * 1 + c * 1 + 0 * stride + 0))
    (λ c l.
    let place : at + r * stride * 1 + c * 1 + 0 * stride + 0 ≡ at + r * stride + c = omega (arith, zero-mul stride, mul-one (r * stride), mul-one c) in
    rw place refl)

-- a row's first place is no large number
pub row_at : (r n stride at : ℕ) → r < n → n < 2 ^ 16 → stride < 2 ^ 16 → at ≤ 1152921504606846976 → Fits w64 (at + r * stride)
row_at r n stride at h few line near = omega (arith, within r 65535 stride 65535 (omega arith) (omega arith))

-- the byte is unpacked of the first r of n rows, and row r's stands at k
pub record Unpacking (s : List ℕ) (o : Order) (first step n at stride : ℕ) (old buf : List ℕ) (r k : ℕ) : Type 0 where
  pub rows : Rowed (byte_bits s o first step) at stride 1 8 n 1 old buf r
  pub place : k ≡ first + r * step

module _ (s : List ℕ) (o : Order) (first step n at stride : ℕ) (old : List ℕ) where
  abbrev bits : ℕ → ℕ → Bool
  bits = byte_bits s o first step

  pub no_row : Unpacking s o first step n at stride old old 0 first
  no_row = record { rows = no_rows bits at stride 1 8 n 1 old; place = omega (arith, zero-mul step) }

  module _ (buf : List ℕ) (r k : ℕ) (so_far : Unpacking s o first step n at stride old buf r k) where
    pub every_row : n ≤ r → buf ≡ painted (in_rows (byte_bits s o first step) (place_at at stride 1) 8 n) 1 old
    every_row h = all_rows bits at stride 1 8 n 1 old buf r so_far.rows h

    module _ (h : r < n) where
      -- its byte lies in the file, so that the next one's place is no large number
      module _ (there : RowsIn s first step 1 n) where
        pub byte_there : k < length s
        byte_there = omega (arith, so_far.place, there.there r h)

        pub next_fits : length s * 1 < 2 ^ 63 → step < 2 ^ 32 → Fits w64 (k + step)
        next_fits few near = omega (arith, byte_there, mul-one (length s))

      row_done : (new : List ℕ) → new ≡ painted (in_row (bits r) (place_at (at + r * stride * 1) stride 1) 8) 1 buf
          → Unpacking s o first step n at stride old new (r + 1) (k + step)
      row_done new e = record {
        rows = row_more bits at stride 1 8 n 1 old buf r so_far.rows h new e;
        place = omega (arith, so_far.place, add-mul r 1 step, one-mul step);
      }

      module _ (held : ℕ) (held-is : held ≡ byte_at s k) where
        byte_is : held ≡ byte_at s (first + r * step)
        byte_is = held-is ∙ ap (byte_at s) so_far.place

        -- a blank byte stores nothing
        pub blank_done : (new : List ℕ) → held ≡ 0 → new ≡ buf → Unpacking s o first step n at stride old new (r + 1) (k + step)
        blank_done new none same = row_done new (same ∙ blank_row s o first step r held byte_is (place_at (at + r * stride * 1) stride 1) 8 1 buf none)

        module _ (shown : ℕ) (shown-is : shown ≡ shown_byte o held) where
          shown_row : bits r ≡ column shown
          shown_row = shown_bits s o first step r held byte_is shown shown-is

          -- where no bit of the rows lies past the buffer, none of this byte does
          pub byte_room : rows_past (byte_bits s o first step) (place_at at stride 1) 8 n (length old) ≡ false
              → bits_past (column shown) (at + r * stride) 8 (length buf) ≡ false
          unfolding bits_past row_past
          byte_room e =
              flat_row (column shown) at r stride 8 (λ j. leb (length buf) j)
              ∙ rw shown_row at (row_room bits at stride 1 8 n 1 old buf r so_far.rows h e)

          pub byte_done : (new drawn : List ℕ) → new ≡ drawn → drawn ≡ painted (in_bits (column shown) (at + r * stride) 8) 1 buf
              → Unpacking s o first step n at stride old new (r + 1) (k + step)
          unfolding in_bits in_row
          byte_done new drawn same e =
              row_done new
              (same ∙ e
              ∙ rw shown_row
              (painted_same (in_bits (column shown) (at + r * stride) 8) (in_row (column shown) (place_at (at + r * stride * 1) stride 1) 8) 1 buf
              (λ i l. flat_row (column shown) at r stride 8 (λ j. eqb i j))))

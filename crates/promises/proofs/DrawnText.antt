-- What it tells that a text was drawn: it was ready, and each of its characters was drawn.
use Prim.Native.Nat.{ℕ}
use mathlib.Core.Path.{◌≡◌, refl}
use native.Mathlib.Omega.{arith}
use Rattle.bitmaps.specs.declared.Drawn.{Drawn}
use Rattle.bitmaps.specs.declared.Rows.{Rows}
use Rattle.text.specs.Text.{after_char, when_ready}
use Rattle.text.specs.declared.Ready.{Ready}
use Rattle.text.specs.declared.TextDrawn.{TextDrawn}
use Rattle.text.specs.declared.TextRows.{TextRows}

pub of_rows : (d : Drawn) (byte : ℕ) (rest : ℕ → TextDrawn) (t : TextRows) → after_char d byte rest ≡ TextDrawn.Done t
    → (r : Rows) × (d ≡ Drawn.Rows r) × (rest r.dropped ≡ TextDrawn.Done t)
of_rows (Drawn.Rows r) byte rest t e = (r, refl, e)
of_rows (Drawn.Refused r) byte rest t e = let z : ◌≡◌ {A = ℕ} 0 1 = cc in absurd (omega arith)

pub was_ready : (x : Ready) (a : TextDrawn) (t : TextRows) → when_ready x a ≡ TextDrawn.Done t → a ≡ TextDrawn.Done t
was_ready (Ready.Line line) a t e = e
was_ready (Ready.Refused r) a t e = let z : ◌≡◌ {A = ℕ} 0 1 = cc in absurd (omega arith)

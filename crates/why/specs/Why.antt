-- The call that names the reason. From document 02: "They want a tool that takes font, code, start, stride, scale and buffer length and
-- names one reason". From document 01, the order of every call: "6, 15".
use Rattle.std.specs.Prelude.{ℕ, List, [], ◌∷◌, ◌++◌, ℤ, pos}
use Rattle.reads.specs.Said.{Said, says, refuses}
use Rattle.tables.specs.Fits.{guarded}
use Rattle.tables.specs.declared.Record.{Record}
use Rattle.modes.specs.declared.Mode.{Mode}
use Rattle.lookup.specs.Served.{supplier_values}
use Rattle.bitmaps.specs.Place.{Place}
use Rattle.bitmaps.specs.Limits.{ok_place}
use Rattle.why.specs.Reasons.{reason_of}
use Rattle.why.specs.declared.Reason.{Reason}
use Rattle.why.specs.declared.ReasonNumber.{ReasonNumber}
use Rattle.why.specs.declared.Told.{Told}

-- `why`: 6, 15, or the reason
unfoldable pub why_of : List ℕ → Record → Mode → ℕ → ℕ → Place → Told
why_of s rec mode code len at = guarded Told.Refused s rec (ok_place at) (reason_of s rec mode code len at)

-- a reason's number, of a refusal its own, and of the others, in their order, one that no refusal has; and "how many" rows were cut
abbrev pub numbered : ℕ → ReasonNumber
numbered n = record { number = n; cut = 0 }

abbrev pub reason_number : Reason → ReasonNumber
reason_number Reason.AboveCodes = numbered 31
reason_number Reason.FirstByte = numbered 32
reason_number Reason.SecondByte = numbered 33
reason_number Reason.EmptyEntry = numbered 34
reason_number Reason.NoMetrics = numbered 10
reason_number Reason.BadMetrics = numbered 11
reason_number Reason.NoBitmap = numbered 12
reason_number Reason.BitOrder = numbered 13
reason_number Reason.BitmapShort = numbered 14
reason_number Reason.BufferShort = numbered 16
reason_number (Reason.RowsCut n) = record { number = 35; cut = n }
reason_number Reason.Blank = numbered 36
reason_number Reason.Drawn = numbered 37

abbrev pub reason_values : ReasonNumber → List ℤ
reason_values r = pos r.number ∷ pos r.cut ∷ []

abbrev pub said_told : Told → Said
said_told (Told.Because r by) = says (reason_values (reason_number r) ++ supplier_values by)
said_told (Told.Refused r) = refuses r

-- The numbers of each call with a record that reads: its answer has values, or its number stands in the documents' column "Refusals, in
-- order". 6 is that of the record's test, and the others are those past it, which the crates below say of their own.
use mathlib.Core.Path.{refl}
use mathlib.Core.List.{List, [], ◌∷◌}
use Prim.Native.Nat.{ℕ}
use lib.ListN.{length}
use Rattle.reads.specs.Said.{NumberedBy}
use Rattle.reads.proofs.Numbers.{has_values, has_number, whichever}
use Rattle.tables.specs.declared.Record.{Record}
use Rattle.tables.proofs.RecordParts.{prop_strings, name_strings}
use Rattle.modes.specs.declared.Mode.{Mode}
use Rattle.lookup.specs.Served.{served, get_glyph, said_served}
use Rattle.lookup.specs.declared.Served.{Served}
use Rattle.lookup.proofs.Refusals.{serve_refusals}
use Rattle.names.specs.Names.{get_name, said_named}
use Rattle.names.specs.declared.Named.{Named}
use Rattle.names.proofs.Refusals.{name_in_data}
use Rattle.props.specs.Props.{prop_at, said_prop}
use Rattle.props.specs.declared.PropFound.{PropFound}
use Rattle.props.proofs.Refusals.{prop_in_data}
use Rattle.metrics.specs.Measure.{get_metrics, get_accelerators, said_measured, said_accelerated}
use Rattle.metrics.specs.declared.Accelerated.{Accelerated}
use Rattle.metrics.specs.declared.Measured.{Measured}
use Rattle.metrics.proofs.Refusals.{metrics_of_refusals}
use Rattle.place.specs.Bounds.{bounds_of, bounds_hold, bounds_sized, dimensions, said_sized}
use Rattle.place.specs.Info.{prep_char, of_placing, said_char_prepared}
use Rattle.place.specs.declared.Sized.{Sized}
use Rattle.place.specs.declared.CharPrepared.{CharPrepared}
use Rattle.place.proofs.Refusals.{char_info_refusals}
use Rattle.bitmaps.specs.Limits.{ok_place}
use Rattle.bitmaps.specs.Place.{Place}
use Rattle.why.specs.Reasons.{served_reason, reason_of}
use Rattle.why.specs.Why.{why_of, said_told}
use Rattle.why.specs.declared.Told.{Told}
use Rattle.frames.specs.Put.{frame_into, of_frames, said_printed}
use Rattle.frames.specs.declared.Printed.{Printed}
use Rattle.frames.proofs.Refusals.{frame_numbered}
use Rattle.promises.specs.Refusals.{Refusals}
use Rattle.promises.proofs.RecordTest.{tested_refusals, guarded_refusals}

-- the calls with a record

module _ (s : List ℕ) (rec : Record) where
  pub get_glyph_refusals : (mode : Mode) (code : ℕ) → Refusals s rec (6 ∷ 9 ∷ []) (said_served (get_glyph s rec mode code))
  unfolding get_glyph
  get_glyph_refusals mode code =
      tested_refusals s rec said_served Served.Refused (λ r. refl) _ refl (λ fits. serve_refusals s rec.codes mode code)

  pub get_name_refusals : (g : ℕ) → Refusals s rec (6 ∷ 17 ∷ 18 ∷ []) (said_named (get_name s rec g))
  unfolding get_name
  get_name_refusals g =
      tested_refusals s rec said_named Named.Refused (λ r. refl) _ refl
      (λ fits. name_in_data s rec.names g (name_strings (length s) rec fits))

  pub prop_at_refusals : (i : ℕ) → Refusals s rec (6 ∷ 17 ∷ 18 ∷ []) (said_prop (prop_at s rec i))
  unfolding prop_at
  prop_at_refusals i =
      tested_refusals s rec said_prop PropFound.Refused (λ r. refl) _ refl (λ fits. prop_in_data s rec.props i (prop_strings (length s) rec fits))

  pub get_metrics_refusals : (g : ℕ) → Refusals s rec (6 ∷ 10 ∷ []) (said_measured (get_metrics s rec g))
  unfolding get_metrics
  get_metrics_refusals g = tested_refusals s rec said_measured Measured.Refused (λ r. refl) _ refl (λ fits. metrics_of_refusals s rec.metrics g)

  pub get_accelerators_refusals : Refusals s rec (6 ∷ []) (said_accelerated (get_accelerators s rec))
  unfolding get_accelerators
  get_accelerators_refusals = tested_refusals s rec said_accelerated Accelerated.Refused (λ r. refl) _ refl (λ fits. has_values)

  pub dimensions_refusals : Refusals s rec (6 ∷ 11 ∷ []) (said_sized (dimensions s rec))
  unfolding dimensions bounds_sized
  dimensions_refusals =
      tested_refusals s rec said_sized Sized.Refused (λ r. refl) _ refl (λ fits. whichever said_sized (bounds_hold (bounds_of rec)) has_values (has_number refl))

  pub prep_char_refusals : (mode : Mode) (code : ℕ) → Refusals s rec (6 ∷ 9 ∷ of_placing) (said_char_prepared (prep_char s rec mode code))
  unfolding prep_char
  prep_char_refusals mode code =
      tested_refusals s rec said_char_prepared CharPrepared.Refused (λ r. refl) _ refl (λ fits. char_info_refusals s rec.codes mode rec.metrics (bounds_of rec) code)

  because_values : (code len : ℕ) (at : Place) (x : Served) → NumberedBy [] (said_told (served_reason s rec code len at x))
  because_values code len at (Served.Glyph g by) = has_values
  because_values code len at (Served.Refused r) = has_values

  pub why_refusals : (mode : Mode) (code len : ℕ) (at : Place) → Refusals s rec (6 ∷ 15 ∷ []) (said_told (why_of s rec mode code len at))
  unfolding why_of reason_of
  why_refusals mode code len at =
      guarded_refusals s rec said_told Told.Refused (λ r. refl) (ok_place at) _ refl (λ fits. because_values code len at (served s rec.codes mode code))

  pub put_frame_refusals : (code room : ℕ) → Refusals s rec (6 ∷ of_frames) (said_printed (frame_into s rec code room))
  unfolding frame_into
  put_frame_refusals code room = tested_refusals s rec said_printed Printed.Refused (λ r. refl) _ refl (λ fits. frame_numbered s rec fits code room)

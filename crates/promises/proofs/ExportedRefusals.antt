-- The numbers of the exported functions that take a record and a mode and no page: those of the library's call, and 15 of an
-- unknown mode after 6.
use mathlib.Core.Path.{refl}
use mathlib.Core.List.{List, [], ◌∷◌}
use Prim.Native.Nat.{ℕ}
use Rattle.tables.specs.Fits.{guarded}
use Rattle.tables.specs.declared.Record.{Record}
use Rattle.modes.specs.Modes.{is_known, mode_of}
use Rattle.lookup.specs.Served.{served, said_served}
use Rattle.lookup.specs.declared.Served.{Served}
use Rattle.lookup.proofs.Refusals.{serve_refusals}
use Rattle.place.specs.Bounds.{bounds_of}
use Rattle.place.specs.Info.{prepared_in, of_placing, said_char_prepared}
use Rattle.place.specs.declared.CharPrepared.{CharPrepared}
use Rattle.place.proofs.Refusals.{char_info_refusals}
use Rattle.promises.specs.Refusals.{Refusals}
use Rattle.promises.proofs.RecordTest.{guarded_refusals}

module _ (s : List ℕ) (rec : Record) (code mode : ℕ) where
  pub thalluskin_glyph_refusals :
      Refusals s rec (6 ∷ 15 ∷ 9 ∷ []) (said_served (guarded Served.Refused s rec (is_known mode) (served s rec.codes (mode_of mode) code)))
  thalluskin_glyph_refusals =
      guarded_refusals s rec said_served Served.Refused (λ r. refl) (is_known mode) _ refl (λ fits. serve_refusals s rec.codes (mode_of mode) code)

  pub thalluskin_prep_char_refusals :
      Refusals s rec (6 ∷ 15 ∷ 9 ∷ of_placing) (said_char_prepared (guarded CharPrepared.Refused s rec (is_known mode) (prepared_in s rec (mode_of mode) code)))
  thalluskin_prep_char_refusals =
      guarded_refusals s rec said_char_prepared CharPrepared.Refused (λ r. refl) (is_known mode) _ refl (λ fits. char_info_refusals s rec.codes (mode_of mode) rec.metrics (bounds_of rec) code)

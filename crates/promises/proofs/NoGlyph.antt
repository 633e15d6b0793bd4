-- Why a code has no glyph: exactly for one of the first four reasons. So these are true wherever what they say is, but for default mode with a
-- default code that has a glyph; and a code above 65,535 takes the default like any other.
use Prim.Native.Nat.{ℕ, ◌<◌}
use mathlib.Core.Path.{◌≡◌}
use mathlib.Core.Bool.{true}
use mathlib.Core.List.{List}
use mathlib.Core.Logic.{◌↔◌, inl, inr, ⊎_elim}
use lib.Dec.{ltb}
use borrow.Author.Tests.{lt-ltb, ltb-true}
use Rattle.reads.specs.Said.{refusal}
use Rattle.reads.proofs.Tests.{split}
use Rattle.tables.specs.declared.EncodingData.{EncodingData}
use Rattle.tables.specs.declared.Record.{Record}
use Rattle.modes.specs.declared.Mode.{Mode}
use Rattle.lookup.specs.Served.{the_default, served}
use Rattle.lookup.specs.declared.Served.{Served}
use Rattle.why.specs.Codes.{first_outside, second_outside}
use Rattle.promises.specs.Passing.{HasGlyph}
use Rattle.promises.specs.Serving.{HasNone}
use Rattle.promises.specs.Why.{FirstOutside, SecondOutside, EntryEmpty, WithoutGlyph, OfCode}
use Rattle.promises.proofs.Serving.{has_none, no_glyph_lem, default_served}
use Rattle.promises.proofs.WhyCodes.{first_out, first_in, second_out, second_in, inside_slot, entry_empty, empty_none, above_none, first_none, second_none}

module _ (s : List ℕ) (rec : Record) (code : ℕ) where
  abbrev c : EncodingData
  c = rec.codes

  -- the first of the four
  why_none : HasNone s rec code → WithoutGlyph s c code
  why_none none =
      split (ltb 65535 code) (λ t. inl (ltb-true 65535 code t))
      (λ t. split (first_outside c code) (λ u. inr (inl (first_out c code u)))
      (λ u. split (second_outside c code) (λ v. inr (inr (inl (second_out c code v))))
      (λ v.
      let (i, stands) = inside_slot c code t u v in
      let empty = entry_empty c code s i stands (refusal 9 0) (no_glyph_lem s rec code none) in
      inr (inr (inr (record { index = i; stands = stands; empty = empty }))))))

  above : ltb 65535 code ≡ true → HasNone s rec code
  above t = has_none s rec code (above_none c code s t)

  first_byte : FirstOutside c code → HasNone s rec code
  first_byte out =
      split (ltb 65535 code) above
      (λ t. split (first_outside c code) (λ u. has_none s rec code (first_none c code s t u)) (λ u. absurd (first_in c code u out)))

  second_byte_lem : SecondOutside c code → HasNone s rec code
  second_byte_lem out =
      split (ltb 65535 code) above
      (λ t. split (first_outside c code) (λ u. has_none s rec code (first_none c code s t u))
      (λ u. split (second_outside c code) (λ v. has_none s rec code (second_none c code s t u v)) (λ v. absurd (second_in c code v out))))

  empty_entry : EntryEmpty s c code → HasNone s rec code
  empty_entry w = has_none s rec code (empty_none c code s w.index w.stands w.empty)

  pub none_exactly : HasNone s rec code ↔ WithoutGlyph s c code
  none_exactly = (
    why_none,
    ⊎_elim (λ far. above (lt-ltb 65535 code far)) (⊎_elim first_byte (⊎_elim second_byte_lem empty_entry)),
  )

  -- what one of the four reasons says is true of a code exactly if it holds, wherever no default has a glyph for it: always in the plain mode
  pub coded_exactly : (mode : Mode) → (mode.default ≡ true → HasNone s rec c.default)
      → (P : Type 0) → (P → WithoutGlyph s c code) → OfCode s rec mode code P ↔ P
  coded_exactly mode default_none P four = (
    λ w. w.holds,
    λ p. record { unshown = record { has_none = none_exactly.1 (four p); default_none = default_none }; holds = p },
  )

  -- "Codes above 65,535 take the default too"
  pub above_by_default : (mode : Mode) → mode.default ≡ true → 65535 < code → (g : ℕ) → HasGlyph s rec c.default g
      → served s c mode code ≡ Served.Glyph (record { 0 = g }) (the_default c)
  above_by_default mode wanted far g has = default_served s rec mode code wanted (above_none c code s (lt-ltb 65535 code far)) g has

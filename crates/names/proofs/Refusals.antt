-- The numbers that a string, and a name, is refused with. None of them is 0, which says "no fault" where faults are counted.
use mathlib.Core.Path.{◌≡◌, refl}
use mathlib.Core.Bool.{true}
use mathlib.Core.List.{List, [], ◌∷◌}
use Prim.Native.Nat.{ℕ, ◌+◌, ◌-◌, ◌*◌}
use lib.ListN.{length}
use lib.Dec.{leb, ltb}
use Rattle.reads.specs.Num.{u32_at}
use Rattle.reads.specs.Said.{NumberedBy}
use Rattle.reads.specs.declared.Refusal.{Refusal}
use Rattle.reads.proofs.Numbers.{has_values, has_number, whichever, one_more, not_in, the_one}
use Rattle.reads.proofs.Tests.{split}
use Rattle.tables.specs.Fits.{inside}
use Rattle.tables.specs.declared.GlyphNameData.{GlyphNameData}
use Rattle.names.specs.Names.{name_of, said_named}
use Rattle.names.specs.Strings.{zero_from, span_to, string_at}
use Rattle.names.specs.declared.Named.{Named}
use Rattle.names.specs.declared.Zero.{Zero}

span_refusals : (start : ℕ) (z : Zero) → NumberedBy (18 ∷ []) (said_named (span_to start z))
span_refusals start (Zero.After len) = has_values
span_refusals start Zero.Nothing = has_number refl

module _ (s : List ℕ) (strings size from : ℕ) where
  -- where the string data lies in the bytes
  pub string_in_data : inside (length s) strings size ≡ true → NumberedBy (18 ∷ []) (said_named (string_at s strings size from))
  unfolding string_at
  string_in_data t =
      rw t (whichever said_named (ltb size from) (has_number refl) (span_refusals (strings + from) (zero_from s (strings + from) (size - from) 0)))

  pub string_at_refusals : NumberedBy (6 ∷ 18 ∷ []) (said_named (string_at s strings size from))
  unfolding string_at
  string_at_refusals = split (inside (length s) strings size) (λ t. one_more (string_in_data t)) (λ t. rw t (has_number refl))

  module _ (r : Refusal) (e : string_at s strings size from ≡ Named.Refused r) where
    pub string_eighteen : inside (length s) strings size ≡ true → r.number ≡ 18
    string_eighteen t = the_one r.number 18 (rw e at (string_in_data t)).is

    pub string_not_0 : r.number ≡ 0 → ⊥
    string_not_0 = not_in (6 ∷ 18 ∷ []) r.number 0 refl (rw e at string_at_refusals).is

module _ (s : List ℕ) (n : GlyphNameData) (g : ℕ) where
  abbrev string : Named
  string = string_at s n.strings n.size (u32_at n.big s (n.offsets + 4 * g))

  name_by_string : {ns : List ℕ} → NumberedBy ns (said_named string) → NumberedBy (17 ∷ ns) (said_named (name_of s n g))
  unfolding name_of
  name_by_string h = whichever said_named (leb n.count g) (has_number refl) (one_more h)

  -- where the string data lies in the bytes
  pub name_in_data : inside (length s) n.strings n.size ≡ true → NumberedBy (17 ∷ 18 ∷ []) (said_named (name_of s n g))
  name_in_data fits = name_by_string (string_in_data s n.strings n.size (u32_at n.big s (n.offsets + 4 * g)) fits)

  pub name_not_0 : (r : Refusal) → name_of s n g ≡ Named.Refused r → r.number ≡ 0 → ⊥
  name_not_0 r e =
      let h = name_by_string (string_at_refusals s n.strings n.size (u32_at n.big s (n.offsets + 4 * g))) in
      not_in (17 ∷ 6 ∷ 18 ∷ []) r.number 0 refl (rw e at h).is

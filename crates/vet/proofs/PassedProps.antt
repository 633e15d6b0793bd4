-- What a pass says of every property: its name ends, and so does its value where it is a string. And the other way.
use mathlib.Core.Path.{◌≡◌, refl}
use mathlib.Core.Bool.{false}
use mathlib.Core.List.{List}
use Prim.Native.Nat.{ℕ, ◌+◌, ◌*◌, ◌<◌}
use lib.Dec.{leb, eqb}
use borrow.Author.Tests.{lt-leb, eqb-false, ne_eqb}
use Rattle.reads.specs.Num.{byte_at, u32_at}
use Rattle.reads.proofs.Tests.{split}
use Rattle.tables.specs.declared.PropertiesData.{PropertiesData}
use Rattle.tables.specs.declared.Record.{Record}
use Rattle.names.specs.declared.Named.{Named}
use Rattle.names.specs.declared.Span.{Span}
use Rattle.names.proofs.Refusals.{string_not_0}
use Rattle.props.specs.Props.{prop_string, prop_of}
use Rattle.vet.specs.Vet.{prop_fault}

-- where property i begins
abbrev pub prop_place : PropertiesData → ℕ → ℕ
prop_place p i = p.records + 9 * i

abbrev name_string : List ℕ → PropertiesData → ℕ → Named
name_string s p i = prop_string s p (u32_at p.big s (prop_place p i))

abbrev value_string : List ℕ → PropertiesData → ℕ → Named
value_string s p i = prop_string s p (u32_at p.big s (prop_place p i + 5))

-- a property that can be read
pub record Readable (s : List ℕ) (p : PropertiesData) (i : ℕ) : Type 0 where
  pub name : Span
  pub is_named : name_string s p i ≡ Named.Name name
  pub has_value : (byte_at s (prop_place p i + 4) ≡ 0 → ⊥) → (text : Span) × (value_string s p i ≡ Named.Name text)

module _ (s : List ℕ) (rec : Record) (i : ℕ) (h : i < rec.props.count) where
  abbrev p : PropertiesData
  p = rec.props

  abbrev flag : ℕ
  flag = byte_at s (prop_place p i + 4)

  in_count : leb p.count i ≡ false
  in_count = lt-leb p.count i h

  pub readable_prop : Readable s p i → prop_fault s rec i ≡ 0
  unfolding prop_fault prop_of
  readable_prop r =
      split (eqb flag 0) (λ t. rw (in_count, r.is_named, t) refl)
      (λ t. let (text, is-text) = r.has_value (eqb-false flag 0 t) in rw (in_count, r.is_named, t, is-text) refl)

  pub prop_readable : prop_fault s rec i ≡ 0 → Readable s p i
  unfolding prop_fault prop_of
  prop_readable e = by (name_string s p i) refl where
    value : (name : Span) → name_string s p i ≡ Named.Name name → eqb flag 0 ≡ false → (x : Named) → value_string s p i ≡ x → (text : Span) × (value_string s p i ≡ Named.Name text)
    value name n t (Named.Name text) v = (text, v)
    value name n t (Named.Refused r) v =
        absurd (string_not_0 s p.strings p.size (u32_at p.big s (prop_place p i + 5)) r v (rw (in_count, n, t, v) at e))

    by : (x : Named) → name_string s p i ≡ x → Readable s p i
    by (Named.Name name) n =
        record { name = name; is_named = n; has_value = λ z. value name n (ne_eqb flag 0 z) (value_string s p i) refl }
    by (Named.Refused r) n =
        absurd (string_not_0 s p.strings p.size (u32_at p.big s (prop_place p i)) r n (rw (in_count, n) at e))

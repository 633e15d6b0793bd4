use Prim.Native.Nat.{ℕ, ◌+◌, ◌*◌, ◌≤◌, ◌<◌, min}
use mathlib.Core.Path.{◌≡◌, ◌∙◌}
use mathlib.Core.List.{List}
use native.Mathlib.Nat.{add-zero}
use native.Mathlib.Omega.{arith}
use lib.ListN.{length}
use borrow.Author.Tests.{le-leb, lt-leb, eq-eqb, ne_eqb}
use borrow.Author.Rules.{rules}
use Rattle.reads.specs.Num.{byte_at, u32_at}
use Rattle.reads.specs.Said.{refusal}
use Rattle.reads.specs.declared.Refusal.{Refusal}
use Rattle.reads.proofs.Past.{byte_reach, number_reach}
use Rattle.tables.specs.declared.PropertiesData.{PropertiesData}
use Rattle.names.specs.declared.Span.{Span}
use Rattle.names.specs.declared.Named.{Named}
use Rattle.props.specs.Props.{property, prop_string, prop_of}
use Rattle.props.specs.declared.PropFound.{PropFound}
use Rattle.props.specs.declared.PropValue.{PropValue}
use Rattle.props.proofs.prop_of.Statement.{statement}
use Rattle.props.proofs.prop_of.Tie as tie

-- what each return answers, by the steps that the code made before it

beyond : (s : List ℕ) (p : PropertiesData) (i : ℕ) → p.count ≤ i → PropFound.Refused (refusal 17 0) ≡ prop_of s p i
unfolding prop_of
beyond s p i h = rw (le-leb _ _ h)

module _ (s : List ℕ) (p : PropertiesData) (i at from : ℕ) (named : Named) (below : i < p.count)
    (reached : at ≡ min (p.records + 9 * i) (length s)) (from_is : from ≡ u32_at p.big s (at + 0)) (named-is : named ≡ prop_string s p from) where
  abbrev first : ℕ
  first = p.records + 9 * i

  from_first : from ≡ u32_at p.big s first
  from_first = from_is ∙ rw (reached, number_reach s first 0 p.big 4 (omega arith), add-zero first)

  nameless : (r : Refusal) → named ≡ Named.Refused r → PropFound.Refused r ≡ prop_of s p i
  unfolding prop_of
  nameless r e = rw (lt-leb _ _ below, ← from_first, ← named-is, e)

  module _ (value flag : ℕ) (name : Span) (value-is : value ≡ u32_at p.big s (at + 5)) (flag_is : flag ≡ byte_at s (at + 4)) (got : named ≡ Named.Name name) where
    value-first : value ≡ u32_at p.big s (first + 5)
    value-first = value-is ∙ rw (reached, number_reach s first 5 p.big 4 (omega arith))

    flag-first : flag ≡ byte_at s (first + 4)
    flag-first = flag_is ∙ rw (reached, byte_reach s first 4)

    number : flag ≡ 0 → property name (PropValue.Number value) ≡ prop_of s p i
    unfolding prop_of
    number e = rw (lt-leb _ _ below, ← from_first, ← value-first, ← flag-first, ← named-is, got, eq-eqb _ _ e)

    module _ (text : Named) (e : flag ≡ 0 → ⊥) (text-is : text ≡ prop_string s p value) where
      string : (span : Span) → text ≡ Named.Name span → property name (PropValue.String span) ≡ prop_of s p i
      unfolding prop_of
      string span h = rw (lt-leb _ _ below, ← from_first, ← value-first, ← flag-first, ← named-is, got, ne_eqb _ _ e, ← text-is, h)

      stringless : (r : Refusal) → text ≡ Named.Refused r → PropFound.Refused r ≡ prop_of s p i
      unfolding prop_of
      stringless r h = rw (lt-leb _ _ below, ← from_first, ← value-first, ← flag-first, ← named-is, got, ne_eqb _ _ e, ← text-is, h)

pub prop_of_spec : {M : Type 1} → statement M
prop_of_spec =
    tie.close
    (tie.spec
    (λ c. search beyond)  -- returns
    (λ c. search rules)  -- mul-reach
    (λ c κs. search rules)  -- reach-requires
    (λ c κs. search rules)  -- u32_at-requires
    (λ c κs. search rules)  -- u32_at-requires-2
    (λ c κs. search rules)  -- prop_string-requires
    (λ c. search rules)  -- enum-known-named
    (λ c κs. search rules)  -- byte_at-requires
    (λ c. search number)  -- returns-2
    (λ c κs. search rules)  -- prop_string-requires-2
    (λ c. search rules)  -- enum-known-text
    (λ c. search rules)  -- enum-known-text-2
    (λ c. search rules)  -- enum-known-named-2
    (λ c. search string)  -- returns-3
    (λ c. search stringless)  -- returns-4
    (λ c. search nameless))  -- returns-5

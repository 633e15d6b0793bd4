-- The numbers that a property is refused with, where the properties' strings lie in the bytes.
use Prim.Native.Nat.{ℕ, ◌+◌, ◌*◌}
use mathlib.Core.Path.{◌≡◌, refl}
use mathlib.Core.Bool.{true}
use mathlib.Core.List.{List, [], ◌∷◌}
use lib.ListN.{length}
use lib.Dec.{leb, eqb}
use Rattle.reads.specs.Num.{byte_at, u32_at}
use Rattle.reads.specs.Said.{NumberedBy}
use Rattle.reads.proofs.Numbers.{has_values, has_number, whichever, one_more}
use Rattle.tables.specs.Fits.{inside}
use Rattle.tables.specs.declared.PropertiesData.{PropertiesData}
use Rattle.names.specs.Names.{said_named}
use Rattle.names.specs.declared.Named.{Named}
use Rattle.names.specs.declared.Span.{Span}
use Rattle.names.proofs.Refusals.{string_in_data}
use Rattle.props.specs.Props.{with_string, prop_string, property, prop_of, said_prop}
use Rattle.props.specs.declared.PropFound.{PropFound}
use Rattle.props.specs.declared.PropValue.{PropValue}

with_string_lem : (x : Named) (rest : Span → PropFound) → NumberedBy (18 ∷ []) (said_named x)
    → ((p : Span) → NumberedBy (18 ∷ []) (said_prop (rest p))) → NumberedBy (18 ∷ []) (said_prop (with_string x rest))
with_string_lem (Named.Name p) rest h k = k p
with_string_lem (Named.Refused r) rest h k = h

pub prop_in_data : (s : List ℕ) (p : PropertiesData) (i : ℕ)
    → inside (length s) p.strings p.size ≡ true → NumberedBy (17 ∷ 18 ∷ []) (said_prop (prop_of s p i))
unfolding prop_of
prop_in_data s p i fits =
    let at = p.records + 9 * i in
    let value = u32_at p.big s (at + 5) in
    let string : (from : ℕ) → NumberedBy (18 ∷ []) (said_named (prop_string s p from)) = λ from. string_in_data s _ _ from fits in
    whichever said_prop (leb p.count i) (has_number refl)
    (one_more (with_string_lem (prop_string s p (u32_at p.big s at)) _ (string (u32_at p.big s at)) (λ name.
    whichever said_prop (eqb (byte_at s (at + 4)) 0) has_values
    (with_string_lem (prop_string s p value) (λ text. property name (PropValue.String text)) (string value) (λ text. has_values)))))

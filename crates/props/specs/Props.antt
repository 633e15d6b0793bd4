-- The property at a number. From document 01: "9 bytes each (name offset, string flag, value)"; "A property answers its name and a
-- value that is a number or a string"; refusal 17 "property number too high"; "names and properties: 6, 17, 18".
use Rattle.std.specs.Prelude.{ℕ, ◌+◌, ◌*◌, cond, List, [], ◌∷◌, leb, eqb, ℤ, pos}
use Rattle.reads.specs.Num.{byte_at, u32_at}
use Rattle.reads.specs.Said.{Said, refusal, says, refuses}
use Rattle.tables.specs.Fits.{tested}
use Rattle.tables.specs.declared.PropertiesData.{PropertiesData}
use Rattle.tables.specs.declared.Record.{Record}
use Rattle.names.specs.Strings.{string_at}
use Rattle.names.specs.declared.Span.{Span}
use Rattle.names.specs.declared.Named.{Named}
use Rattle.props.specs.declared.PropValue.{PropValue}
use Rattle.props.specs.declared.PropFound.{PropFound}

abbrev pub property : Span → PropValue → PropFound
property name value = PropFound.Property (record { name = name; value = value })

-- go on with a string, or 18
abbrev pub with_string : Named → (Span → PropFound) → PropFound
with_string (Named.Name p) rest = rest p
with_string (Named.Refused r) rest = PropFound.Refused r

-- string `from` of the properties' strings
abbrev pub prop_string : List ℕ → PropertiesData → ℕ → Named
prop_string s p from = string_at s p.strings p.size from

-- property i: the name first, then the value, a string where the flag is not 0
unfoldable pub prop_of : List ℕ → PropertiesData → ℕ → PropFound
prop_of s p i =
    let at = p.records + 9 * i in
    let value = u32_at p.big s (at + 5) in
    cond (leb p.count i) (PropFound.Refused (refusal 17 0))
    (with_string (prop_string s p (u32_at p.big s at)) (λ name.
    cond (eqb (byte_at s (at + 4)) 0) (property name (PropValue.Number value))
    (with_string (prop_string s p value) (λ text. property name (PropValue.String text)))))

-- `prop_at`: 6, 17, 18
unfoldable pub prop_at : List ℕ → Record → ℕ → PropFound
prop_at s rec i = tested PropFound.Refused s rec (prop_of s rec.props i)

-- 0 and the number, or 1 and the string's start and length
abbrev pub value_values : PropValue → List ℤ
value_values (PropValue.Number n) = pos 0 ∷ pos n ∷ []
value_values (PropValue.String p) = pos 1 ∷ pos p.start ∷ pos p.len ∷ []

abbrev pub said_prop : PropFound → Said
said_prop (PropFound.Property p) = says (pos p.name.start ∷ pos p.name.len ∷ value_values p.value)
said_prop (PropFound.Refused r) = refuses r

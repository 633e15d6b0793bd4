-- The same of the view of a font, and of the functions above it.
use mathlib.Core.Path.{◌≡◌, refl, sym, ◌∙◌}
use seplogic.Ra.Ura.{Ura}
use base.Logic.{SProp, ent, sep, via, fst∗, snd∗}
use prog.Memory.{Memory}
use prog.Routine.{Routine}
use types.Logic.{Logic}
use contract.Monad.{Fun, fact, fact_i, fact_use}
use Rattle.font.proofs.record_of.Kinds as record-of-kinds
use Rattle.font.proofs.record_of.Reads as record-of-reads
use Rattle.font.proofs.show_char.Kinds as show-char-kinds
use Rattle.font.proofs.show_char.Reads as show-char-reads
use Rattle.font.proofs.show_string.Kinds as show-string-kinds
use Rattle.font.proofs.show_string.Reads as show-string-reads
use Rattle.font.proofs.char_through.Kinds as char-through-kinds
use Rattle.font.proofs.char_through.Reads as char-through-reads
use Rattle.font.proofs.string_through.Kinds as string-through-kinds
use Rattle.font.proofs.string_through.Reads as string-through-reads
use Rattle.font.proofs.open.Kinds as font-open-kinds
use Rattle.font.proofs.open.Reads as font-open-reads
use Rattle.font.proofs.Font.get_glyph.Kinds as font-get-glyph-kinds
use Rattle.font.proofs.Font.get_glyph.Reads as font-get-glyph-reads
use Rattle.font.proofs.Font.get_name.Kinds as font-get-name-kinds
use Rattle.font.proofs.Font.get_name.Reads as font-get-name-reads
use Rattle.font.proofs.Font.name_bytes.Kinds as font-name-bytes-kinds
use Rattle.font.proofs.Font.name_bytes.Reads as font-name-bytes-reads
use Rattle.font.proofs.Font.dimensions.Kinds as font-dimensions-kinds
use Rattle.font.proofs.Font.dimensions.Reads as font-dimensions-reads
use Rattle.font.proofs.Font.prep_char.Kinds as font-prep-char-kinds
use Rattle.font.proofs.Font.prep_char.Reads as font-prep-char-reads
use Rattle.font.proofs.Font.draw_char.Kinds as font-draw-char-kinds
use Rattle.font.proofs.Font.draw_char.Reads as font-draw-char-reads
use Rattle.font.proofs.Font.draw_string.Kinds as font-draw-string-kinds
use Rattle.font.proofs.Font.draw_string.Reads as font-draw-string-reads
use Rattle.font.specs.contracts.open as view-open
use Rattle.font.specs.contracts.Font.get_glyph as view-get-glyph
use Rattle.font.specs.contracts.Font.get_name as view-get-name
use Rattle.font.specs.contracts.Font.name_bytes as view-name-bytes
use Rattle.font.specs.contracts.Font.dimensions as view-dimensions
use Rattle.font.specs.contracts.Font.prep_char as view-prep-char
use Rattle.font.specs.contracts.Font.draw_char as view-draw-char
use Rattle.font.specs.contracts.Font.draw_string as view-draw-string
use Rattle.promises.specs.Unique.{Fixes, FixesPart, FixesLent, SamePart, FixesSaid}

pub record_of_unique : Fixes 1 record-of-kinds.ps record-of-kinds.r record-of-reads.Post
record_of_unique κs a r₁ r₂ x₁ x₂ p q = p ∙ sym q

pub char_through_unique : FixesLent 2 char-through-kinds.ps char-through-kinds.r char-through-reads.Post (λ κs x. x.1.1.1.1.0.now)
char_through_unique κs a r₁ r₂ x₁ x₂ p q = (p.0 ∙ sym q.0, p.1 ∙ rw (p.0, q.0) refl ∙ sym q.1)

pub string_through_unique : FixesLent 3 string-through-kinds.ps string-through-kinds.r string-through-reads.Post (λ κs x. x.1.1.1.1.0.now)
string_through_unique κs a r₁ r₂ x₁ x₂ p q = (p.0 ∙ sym q.0, p.1 ∙ rw (p.0, q.0) refl ∙ sym q.1)

pub show_char_unique : FixesLent 2 show-char-kinds.ps show-char-kinds.r show-char-reads.Post (λ κs x. x.1.1.1.1.0.now)
show_char_unique κs a r₁ r₂ x₁ x₂ p q = (p.0 ∙ sym q.0, p.1 ∙ rw (p.0, q.0) refl ∙ sym q.1)

pub show_string_unique : FixesLent 3 show-string-kinds.ps show-string-kinds.r show-string-reads.Post (λ κs x. x.1.1.1.1.0.now)
show_string_unique κs a r₁ r₂ x₁ x₂ p q = (p.0 ∙ sym q.0, p.1 ∙ rw (p.0, q.0) refl ∙ sym q.1)

-- of the view, by the facts that its contracts state
pub font_open_unique : Fixes 1 font-open-kinds.ps font-open-kinds.r font-open-reads.Post
font_open_unique κs a r₁ r₂ x₁ x₂ p q = λ i. record { bytes = (p.0 ∙ sym q.0) i; rec = (p.1 ∙ sym q.1) i }

pub font_get_glyph_unique : Fixes 1 font-get-glyph-kinds.ps font-get-glyph-kinds.r font-get-glyph-reads.Post
font_get_glyph_unique κs a r₁ r₂ x₁ x₂ p q = p ∙ sym q

pub font_get_name_unique : Fixes 1 font-get-name-kinds.ps font-get-name-kinds.r font-get-name-reads.Post
font_get_name_unique κs a r₁ r₂ x₁ x₂ p q = p ∙ sym q

pub font_name_bytes_unique : FixesPart 1 font-name-bytes-kinds.ps font-name-bytes-kinds.r font-name-bytes-reads.Post (λ κs r. r)
font_name_bytes_unique κs a r₁ r₂ x₁ x₂ p q = (p.0 ∙ sym q.0, p.1 ∙ sym q.1)

pub font_dimensions_unique : Fixes 1 font-dimensions-kinds.ps font-dimensions-kinds.r font-dimensions-reads.Post
font_dimensions_unique κs a r₁ r₂ x₁ x₂ p q = p ∙ sym q

pub font_prep_char_unique : Fixes 1 font-prep-char-kinds.ps font-prep-char-kinds.r font-prep-char-reads.Post
font_prep_char_unique κs a r₁ r₂ x₁ x₂ p q = p ∙ sym q

pub font_draw_char_unique : FixesLent 2 font-draw-char-kinds.ps font-draw-char-kinds.r font-draw-char-reads.Post (λ κs x. x.1.1.1.0.now)
font_draw_char_unique κs a r₁ r₂ x₁ x₂ p q = (p.0 ∙ sym q.0, p.1 ∙ rw (p.0, q.0) refl ∙ sym q.1)

pub font_draw_string_unique : FixesLent 3 font-draw-string-kinds.ps font-draw-string-kinds.r font-draw-string-reads.Post (λ κs x. x.1.1.1.0.now)
font_draw_string_unique κs a r₁ r₂ x₁ x₂ p q = (p.0 ∙ sym q.0, p.1 ∙ rw (p.0, q.0) refl ∙ sym q.1)

module _ {M : Type 1} (𝓤 : Ura M) where
  -- two facts that are both had give what follows from them
  from_facts : {φ ψ χ : Type 0} → (φ → ψ → χ) → ent 𝓤 (sep 𝓤 (fact 𝓤 φ) (fact 𝓤 ψ)) (fact 𝓤 χ)
  from_facts {φ} {ψ} {χ} f = fact_use 𝓤 φ (fst∗ 𝓤 (fact 𝓤 φ) (fact 𝓤 ψ)) (λ x. fact_use 𝓤 ψ (snd∗ 𝓤 (fact 𝓤 φ) (fact 𝓤 ψ)) (λ y. fact_i 𝓤 χ (sep 𝓤 (fact 𝓤 φ) (fact 𝓤 ψ)) (f x y)))

  -- and so do two pairs of facts
  from_pairs : {φ φ' ψ ψ' χ : Type 0} → (φ → φ' → ψ → ψ' → χ) → ent 𝓤 (sep 𝓤 (sep 𝓤 (fact 𝓤 φ) (fact 𝓤 φ')) (sep 𝓤 (fact 𝓤 ψ) (fact 𝓤 ψ'))) (fact 𝓤 χ)
  from_pairs {φ} {φ'} {ψ} {ψ'} {χ} f =
      let P = sep 𝓤 (fact 𝓤 φ) (fact 𝓤 φ') in
      let Q = sep 𝓤 (fact 𝓤 ψ) (fact 𝓤 ψ') in
      fact_use 𝓤 (φ × φ') (via 𝓤 P (fst∗ 𝓤 P Q) (from_facts (λ x y. (x, y)))) (λ p.
      fact_use 𝓤 (ψ × ψ') (via 𝓤 Q (snd∗ 𝓤 P Q) (from_facts (λ x y. (x, y)))) (λ q. fact_i 𝓤 χ (sep 𝓤 P Q) (f p.0 p.1 q.0 q.1)))

-- and as they stand in the logic, in any model
module _ {M : Type 1} {𝓤 : Ura M} (𝓛 : Logic 𝓤) (mem : Memory → SProp 𝓤) (run : Routine → Fun 𝓤) where
  pub view_open_unique : FixesSaid 𝓤 view-open.ended (view-open.clauses 𝓛 mem run) (λ κs r₁ r₂ x₁ x₂. r₁ ≡ r₂)
  view_open_unique κs a g₁ g₂ r₁ r₂ x₁ x₂ =
      from_facts 𝓤 (λ p q. λ i. record { bytes = (p.0 ∙ sym q.0) i; rec = (p.1 ∙ sym q.1) i })

  pub view_get_glyph_unique : FixesSaid 𝓤 view-get-glyph.ended (view-get-glyph.clauses 𝓛 mem run) (λ κs r₁ r₂ x₁ x₂. r₁ ≡ r₂)
  view_get_glyph_unique κs a g₁ g₂ r₁ r₂ x₁ x₂ = from_facts 𝓤 (λ p q. p ∙ sym q)

  pub view_get_name_unique : FixesSaid 𝓤 view-get-name.ended (view-get-name.clauses 𝓛 mem run) (λ κs r₁ r₂ x₁ x₂. r₁ ≡ r₂)
  view_get_name_unique κs a g₁ g₂ r₁ r₂ x₁ x₂ = from_facts 𝓤 (λ p q. p ∙ sym q)

  pub view_dimensions_unique : FixesSaid 𝓤 view-dimensions.ended (view-dimensions.clauses 𝓛 mem run) (λ κs r₁ r₂ x₁ x₂. r₁ ≡ r₂)
  view_dimensions_unique κs a g₁ g₂ r₁ r₂ x₁ x₂ = from_facts 𝓤 (λ p q. p ∙ sym q)

  pub view_prep_char_unique : FixesSaid 𝓤 view-prep-char.ended (view-prep-char.clauses 𝓛 mem run) (λ κs r₁ r₂ x₁ x₂. r₁ ≡ r₂)
  view_prep_char_unique κs a g₁ g₂ r₁ r₂ x₁ x₂ = from_facts 𝓤 (λ p q. p ∙ sym q)

  pub view_name_bytes_unique : FixesSaid 𝓤 view-name-bytes.ended (view-name-bytes.clauses 𝓛 mem run) (λ κs r₁ r₂ x₁ x₂. SamePart r₁ r₂)
  view_name_bytes_unique κs a g₁ g₂ r₁ r₂ x₁ x₂ = from_pairs 𝓤 (λ p l q m. (p ∙ sym q, l ∙ sym m))

  pub view_draw_char_unique : FixesSaid 𝓤 view-draw-char.ended (view-draw-char.clauses 𝓛 mem run) (λ κs r₁ r₂ x₁ x₂. (r₁ ≡ r₂) × (x₁.1.1.1.0.now ≡ x₂.1.1.1.0.now))
  view_draw_char_unique κs a g₁ g₂ r₁ r₂ x₁ x₂ =
      from_pairs 𝓤 (λ p l q m. (p ∙ sym q, l ∙ rw (p, q) refl ∙ sym m))

  pub view_draw_string_unique : FixesSaid 𝓤 view-draw-string.ended (view-draw-string.clauses 𝓛 mem run) (λ κs r₁ r₂ x₁ x₂. (r₁ ≡ r₂) × (x₁.1.1.1.0.now ≡ x₂.1.1.1.0.now))
  view_draw_string_unique κs a g₁ g₂ r₁ r₂ x₁ x₂ =
      from_pairs 𝓤 (λ p l q m. (p ∙ sym q, l ∙ rw (p, q) refl ∙ sym m))

-- The same of each exported function: its contract determines its answer, and what it leaves in a lent buffer.
use mathlib.Core.Path.{sym, ◌∙◌}
use Rattle.promises.specs.Unique.{Fixes, FixesLent}
use Rattle.thalluskin.proofs.thalluskin_version.Kinds as thalluskin-version-kinds
use Rattle.thalluskin.proofs.thalluskin_version.Reads as thalluskin-version-reads
use Rattle.thalluskin.proofs.thalluskin_load.Kinds as thalluskin-load-kinds
use Rattle.thalluskin.proofs.thalluskin_load.Reads as thalluskin-load-reads
use Rattle.thalluskin.proofs.thalluskin_load_strict.Kinds as thalluskin-load-strict-kinds
use Rattle.thalluskin.proofs.thalluskin_load_strict.Reads as thalluskin-load-strict-reads
use Rattle.thalluskin.proofs.thalluskin_vet.Kinds as thalluskin-vet-kinds
use Rattle.thalluskin.proofs.thalluskin_vet.Reads as thalluskin-vet-reads
use Rattle.thalluskin.proofs.thalluskin_property.Kinds as thalluskin-property-kinds
use Rattle.thalluskin.proofs.thalluskin_property.Reads as thalluskin-property-reads
use Rattle.thalluskin.proofs.thalluskin_glyph.Kinds as thalluskin-glyph-kinds
use Rattle.thalluskin.proofs.thalluskin_glyph.Reads as thalluskin-glyph-reads
use Rattle.thalluskin.proofs.thalluskin_name.Kinds as thalluskin-name-kinds
use Rattle.thalluskin.proofs.thalluskin_name.Reads as thalluskin-name-reads
use Rattle.thalluskin.proofs.thalluskin_metrics.Kinds as thalluskin-metrics-kinds
use Rattle.thalluskin.proofs.thalluskin_metrics.Reads as thalluskin-metrics-reads
use Rattle.thalluskin.proofs.thalluskin_accel.Kinds as thalluskin-accel-kinds
use Rattle.thalluskin.proofs.thalluskin_accel.Reads as thalluskin-accel-reads
use Rattle.thalluskin.proofs.thalluskin_dimensions.Kinds as thalluskin-dimensions-kinds
use Rattle.thalluskin.proofs.thalluskin_dimensions.Reads as thalluskin-dimensions-reads
use Rattle.thalluskin.proofs.thalluskin_prep_char.Kinds as thalluskin-prep-char-kinds
use Rattle.thalluskin.proofs.thalluskin_prep_char.Reads as thalluskin-prep-char-reads
use Rattle.thalluskin.proofs.thalluskin_draw_bitmap.Kinds as thalluskin-draw-bitmap-kinds
use Rattle.thalluskin.proofs.thalluskin_draw_bitmap.Reads as thalluskin-draw-bitmap-reads
use Rattle.thalluskin.proofs.thalluskin_draw_glyph.Kinds as thalluskin-draw-glyph-kinds
use Rattle.thalluskin.proofs.thalluskin_draw_glyph.Reads as thalluskin-draw-glyph-reads
use Rattle.thalluskin.proofs.thalluskin_draw_char.Kinds as thalluskin-draw-char-kinds
use Rattle.thalluskin.proofs.thalluskin_draw_char.Reads as thalluskin-draw-char-reads
use Rattle.thalluskin.proofs.thalluskin_why.Kinds as thalluskin-why-kinds
use Rattle.thalluskin.proofs.thalluskin_why.Reads as thalluskin-why-reads
use Rattle.thalluskin.proofs.thalluskin_unpack_glyph.Kinds as thalluskin-unpack-glyph-kinds
use Rattle.thalluskin.proofs.thalluskin_unpack_glyph.Reads as thalluskin-unpack-glyph-reads
use Rattle.thalluskin.proofs.thalluskin_draw_string.Kinds as thalluskin-draw-string-kinds
use Rattle.thalluskin.proofs.thalluskin_draw_string.Reads as thalluskin-draw-string-reads
use Rattle.thalluskin.proofs.thalluskin_text_check.Kinds as thalluskin-text-check-kinds
use Rattle.thalluskin.proofs.thalluskin_text_check.Reads as thalluskin-text-check-reads
use Rattle.thalluskin.proofs.thalluskin_utf8_step.Kinds as thalluskin-utf8-step-kinds
use Rattle.thalluskin.proofs.thalluskin_utf8_step.Reads as thalluskin-utf8-step-reads

pub thalluskin_version_unique : Fixes 0 thalluskin-version-kinds.ps thalluskin-version-kinds.r thalluskin-version-reads.Post
thalluskin_version_unique κs a r₁ r₂ x₁ x₂ p q = p ∙ sym q

pub thalluskin_load_unique : Fixes 1 thalluskin-load-kinds.ps thalluskin-load-kinds.r thalluskin-load-reads.Post
thalluskin_load_unique κs a r₁ r₂ x₁ x₂ p q = p ∙ sym q

pub thalluskin_load_strict_unique : Fixes 1 thalluskin-load-strict-kinds.ps thalluskin-load-strict-kinds.r thalluskin-load-strict-reads.Post
thalluskin_load_strict_unique κs a r₁ r₂ x₁ x₂ p q = p ∙ sym q

pub thalluskin_vet_unique : Fixes 1 thalluskin-vet-kinds.ps thalluskin-vet-kinds.r thalluskin-vet-reads.Post
thalluskin_vet_unique κs a r₁ r₂ x₁ x₂ p q = p ∙ sym q

pub thalluskin_property_unique : Fixes 1 thalluskin-property-kinds.ps thalluskin-property-kinds.r thalluskin-property-reads.Post
thalluskin_property_unique κs a r₁ r₂ x₁ x₂ p q = p ∙ sym q

pub thalluskin_glyph_unique : Fixes 1 thalluskin-glyph-kinds.ps thalluskin-glyph-kinds.r thalluskin-glyph-reads.Post
thalluskin_glyph_unique κs a r₁ r₂ x₁ x₂ p q = p ∙ sym q

pub thalluskin_name_unique : Fixes 1 thalluskin-name-kinds.ps thalluskin-name-kinds.r thalluskin-name-reads.Post
thalluskin_name_unique κs a r₁ r₂ x₁ x₂ p q = p ∙ sym q

pub thalluskin_metrics_unique : Fixes 1 thalluskin-metrics-kinds.ps thalluskin-metrics-kinds.r thalluskin-metrics-reads.Post
thalluskin_metrics_unique κs a r₁ r₂ x₁ x₂ p q = p ∙ sym q

pub thalluskin_accel_unique : Fixes 1 thalluskin-accel-kinds.ps thalluskin-accel-kinds.r thalluskin-accel-reads.Post
thalluskin_accel_unique κs a r₁ r₂ x₁ x₂ p q = p ∙ sym q

pub thalluskin_dimensions_unique : Fixes 1 thalluskin-dimensions-kinds.ps thalluskin-dimensions-kinds.r thalluskin-dimensions-reads.Post
thalluskin_dimensions_unique κs a r₁ r₂ x₁ x₂ p q = p ∙ sym q

pub thalluskin_prep_char_unique : Fixes 1 thalluskin-prep-char-kinds.ps thalluskin-prep-char-kinds.r thalluskin-prep-char-reads.Post
thalluskin_prep_char_unique κs a r₁ r₂ x₁ x₂ p q = p ∙ sym q

pub thalluskin_draw_bitmap_unique : FixesLent 2 thalluskin-draw-bitmap-kinds.ps thalluskin-draw-bitmap-kinds.r thalluskin-draw-bitmap-reads.Post (λ κs x. x.1.1.1.0.now)
thalluskin_draw_bitmap_unique κs a r₁ r₂ x₁ x₂ p q = (p.0 ∙ sym q.0, p.1 ∙ sym q.1)

pub thalluskin_draw_glyph_unique : FixesLent 2 thalluskin-draw-glyph-kinds.ps thalluskin-draw-glyph-kinds.r thalluskin-draw-glyph-reads.Post (λ κs x. x.1.1.1.0.now)
thalluskin_draw_glyph_unique κs a r₁ r₂ x₁ x₂ p q = (p.0 ∙ sym q.0, p.1 ∙ sym q.1)

pub thalluskin_draw_char_unique : FixesLent 2 thalluskin-draw-char-kinds.ps thalluskin-draw-char-kinds.r thalluskin-draw-char-reads.Post (λ κs x. x.1.1.1.0.now)
thalluskin_draw_char_unique κs a r₁ r₂ x₁ x₂ p q = (p.0 ∙ sym q.0, p.1 ∙ sym q.1)

pub thalluskin_why_unique : Fixes 1 thalluskin-why-kinds.ps thalluskin-why-kinds.r thalluskin-why-reads.Post
thalluskin_why_unique κs a r₁ r₂ x₁ x₂ p q = p ∙ sym q

pub thalluskin_unpack_glyph_unique : FixesLent 2 thalluskin-unpack-glyph-kinds.ps thalluskin-unpack-glyph-kinds.r thalluskin-unpack-glyph-reads.Post (λ κs x. x.1.1.1.0.now)
thalluskin_unpack_glyph_unique κs a r₁ r₂ x₁ x₂ p q = (p.0 ∙ sym q.0, p.1 ∙ sym q.1)

pub thalluskin_draw_string_unique : FixesLent 3 thalluskin-draw-string-kinds.ps thalluskin-draw-string-kinds.r thalluskin-draw-string-reads.Post (λ κs x. x.1.1.1.0.now)
thalluskin_draw_string_unique κs a r₁ r₂ x₁ x₂ p q = (p.0 ∙ sym q.0, p.1 ∙ sym q.1)

pub thalluskin_text_check_unique : Fixes 2 thalluskin-text-check-kinds.ps thalluskin-text-check-kinds.r thalluskin-text-check-reads.Post
thalluskin_text_check_unique κs a r₁ r₂ x₁ x₂ p q = p ∙ sym q

pub thalluskin_utf8_step_unique : Fixes 1 thalluskin-utf8-step-kinds.ps thalluskin-utf8-step-kinds.r thalluskin-utf8-step-reads.Post
thalluskin_utf8_step_unique κs a r₁ r₂ x₁ x₂ p q = p ∙ sym q

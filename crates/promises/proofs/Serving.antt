-- What lookup answers in a mode is what plain logic says, for every font and code: with which glyph, supplied by which code, and when with 9.
use Prim.Native.Nat.{ℕ, ◌+◌, ◌*◌}
use mathlib.Core.Path.{◌≡◌, refl, sym, ap, subst, ◌∙◌}
use mathlib.Core.Bool.{true, false}
use mathlib.Core.List.{List}
use mathlib.Core.Logic.{◌⊎◌, ◌↔◌, inl, inr, ⊎_elim}
use native.Mathlib.Omega.{arith}
use lib.Dec.{eqb}
use Rattle.reads.specs.Num.{u16_at}
use Rattle.reads.specs.Said.{refusal}
use Rattle.reads.specs.declared.GlyphIndex.{GlyphIndex}
use Rattle.reads.specs.declared.Refusal.{Refusal}
use Rattle.reads.proofs.Tests.{split}
use Rattle.tables.specs.declared.EncodingData.{EncodingData}
use Rattle.tables.specs.declared.Record.{Record}
use Rattle.modes.specs.declared.Mode.{Mode}
use Rattle.lookup.specs.Lookup.{slot_of, no_glyph, glyph_at, glyph_of}
use Rattle.lookup.specs.Served.{itself, the_default, supplied_by, stand_in, served}
use Rattle.lookup.specs.declared.Found.{Found}
use Rattle.lookup.specs.declared.Served.{Served}
use Rattle.lookup.specs.declared.Slot.{Slot}
use Rattle.lookup.specs.declared.Supplier.{Supplier}
use Rattle.promises.specs.Passing.{HasGlyph}
use Rattle.promises.specs.Serving.{HasNone, ShownBy, Unshown}

same_served : (g h : ℕ) (x y : Supplier) → Served.Glyph (record { 0 = g }) x ≡ Served.Glyph (record { 0 = h }) y → (g ≡ h) × (x ≡ y)
same_served g h x y e =
    let glyph : ◌≡◌ {A = GlyphIndex} (record { 0 = g }) (record { 0 = h }) = cc in
    let supplier : x ≡ y = cc in
    (ap (λ (i : GlyphIndex). i.0) glyph, supplier)

pub not_served : (g : GlyphIndex) (by : Supplier) (r : Refusal) → Served.Glyph g by ≡ Served.Refused r → ⊥
not_served g by r e = let z : ◌≡◌ {A = ℕ} 0 1 = cc in omega arith

module _ (s : List ℕ) (rec : Record) where
  abbrev c : EncodingData
  c = rec.codes

  -- a code has no glyph, or one
  pub none_or_one : (code : ℕ) → (glyph_of s c code ≡ no_glyph) ⊎ ((g : ℕ) × HasGlyph s rec code g)
  unfolding glyph_of
  none_or_one code = by (slot_of c code) refl where
    by : (x : Slot) → slot_of c code ≡ x
        → (glyph_at s c (slot_of c code) ≡ no_glyph) ⊎ ((g : ℕ) × (glyph_at s c (slot_of c code) ≡ Found.Glyph (record { 0 = g })))
    by (Slot.At i) e =
        let entry = u16_at c.big s (c.entries + 2 * i) in
        split (eqb entry 65535) (λ t. inl (rw (e, t) refl)) (λ t. inr (entry, rw (e, t) refl))
    by Slot.Nothing e = inl (rw e refl)

  pub has_none : (code : ℕ) → glyph_of s c code ≡ no_glyph → HasNone s rec code
  has_none code none g has = let z : ◌≡◌ {A = ℕ} 0 1 = cc (sym has ∙ none) in omega arith

  pub no_glyph_lem : (code : ℕ) → HasNone s rec code → glyph_of s c code ≡ no_glyph
  no_glyph_lem code none = ⊎_elim (λ e. e) (λ (g, has). absurd (none g has)) (none_or_one code)

  module _ (mode : Mode) (code : ℕ) where
    pub own_served : (g : ℕ) → HasGlyph s rec code g → served s c mode code ≡ Served.Glyph (record { 0 = g }) (itself code)
    unfolding served
    own_served g has = rw has refl

    pub default_served : mode.default ≡ true → glyph_of s c code ≡ no_glyph → (g : ℕ) → HasGlyph s rec c.default g
        → served s c mode code ≡ Served.Glyph (record { 0 = g }) (the_default c)
    unfolding served stand_in
    default_served wanted none g has = rw (none, wanted, has) refl

    none_served : glyph_of s c code ≡ no_glyph → (mode.default ≡ true → glyph_of s c c.default ≡ no_glyph)
        → served s c mode code ≡ Served.Refused (refusal 9 0)
    unfolding served stand_in
    none_served none default_none = split mode.default (λ t. rw (none, t, default_none t) refl) (λ t. rw (none, t) refl)

    -- "plain stays as it is": the code's own glyph, supplied by itself
    pub plain_served : mode.default ≡ false → served s c mode code ≡ supplied_by (itself code) (glyph_of s c code)
    unfolding served stand_in
    plain_served off = by (none_or_one code) where
      by : (glyph_of s c code ≡ no_glyph) ⊎ ((g : ℕ) × HasGlyph s rec code g) → served s c mode code ≡ supplied_by (itself code) (glyph_of s c code)
      by (inl none) = rw (none, off) refl
      by (inr (g, has)) = rw has refl

    -- 9 exactly if neither the code has a glyph nor, in default mode, the default code
    pub unserved_exactly : (served s c mode code ≡ Served.Refused (refusal 9 0)) ↔ Unshown s rec mode code
    unserved_exactly = (
      λ e.
          let none : HasNone s rec code = λ g has. not_served (record { 0 = g }) (itself code) (refusal 9 0) (sym (own_served g has) ∙ e) in
          record {
            has_none = none;
            default_none = λ wanted g has.
                not_served (record { 0 = g }) (the_default c) (refusal 9 0) (sym (default_served wanted (no_glyph_lem code none) g has) ∙ e);
          },
      λ u. none_served (no_glyph_lem code u.has_none) (λ wanted. no_glyph_lem c.default (u.default_none wanted)),
    )

    -- a glyph, or 9
    pub served_or_9 : (served s c mode code ≡ Served.Refused (refusal 9 0)) ⊎ ((g : ℕ) × (by : Supplier) × ShownBy s rec mode code g by)
    served_or_9 =
        ⊎_elim
        (λ none.
        split mode.default
        (λ t. ⊎_elim (λ default_none. inl (none_served none (λ wanted. default_none)))
        (λ (g, has). inr (g, the_default c, inr (record { wanted = t; has_none = has_none code none; default_has = has; is = refl })))
        (none_or_one c.default))
        (λ t. inl (none_served none (λ wanted. let z : ◌≡◌ {A = ℕ} 0 1 = cc (sym wanted ∙ t) in absurd (omega arith)))))
        (λ (g, has). inr (g, itself code, inl (record { has = has; is = refl })))
        (none_or_one code)

    shown_served : (g : ℕ) (by : Supplier) → ShownBy s rec mode code g by → served s c mode code ≡ Served.Glyph (record { 0 = g }) by
    shown_served g by =
        ⊎_elim
        (λ own. rw own.is (own_served g own.has))
        (λ other. rw other.is (default_served other.wanted (no_glyph_lem code other.has_none) g other.default_has))

    -- a glyph exactly if it shows the code so
    pub served_exactly : (g : ℕ) (by : Supplier) → (served s c mode code ≡ Served.Glyph (record { 0 = g }) by) ↔ ShownBy s rec mode code g by
    served_exactly g by = (
      λ e.
          ⊎_elim (λ none. absurd (not_served (record { 0 = g }) by (refusal 9 0) (sym e ∙ none)))
          (λ (h, other, shown).
          let (glyph, supplier) = same_served h g other by (sym (shown_served h other shown) ∙ e) in
          subst (λ (x : Supplier). ShownBy s rec mode code g x) supplier (subst (λ (n : ℕ). ShownBy s rec mode code n other) glyph shown))
          served_or_9,
      shown_served g by,
    )

    -- the code that supplied a glyph has it for its own
    pub supplied : (g : GlyphIndex) (by : Supplier) → served s c mode code ≡ Served.Glyph g by → glyph_of s c by.code.0 ≡ Found.Glyph g
    supplied g by e = ⊎_elim (λ own. rw own.is own.has) (λ other. rw other.is other.default_has) ((served_exactly g.0 by).0 e)

-- What the exported functions do in a mode: in a known one they are the library's, a page with its own line length; in any other number they
-- are refused, 6 for a record that does not fit the bytes, else 15, and vetting 15.
use mathlib.Core.Path.{◌≡◌, refl, sym}
use mathlib.Core.Bool.{true, false, cond}
use mathlib.Core.List.{List}
use mathlib.Core.Logic.{◌⊎◌, inl, inr}
use Prim.Native.Nat.{ℕ, zero, suc}
use native.Mathlib.Omega.{arith}
use borrow.Author.Tests.{ltb-true}
use lib.Dec.{leb}
use lib.ListN.{length}
use Rattle.reads.specs.Said.{refusal}
use Rattle.reads.specs.declared.Refusal.{Refusal}
use Rattle.reads.proofs.Tests.{split}
use Rattle.tables.specs.Fits.{record_fits, guarded, ladder}
use Rattle.tables.specs.declared.Record.{Record}
use Rattle.load.specs.declared.Loaded.{Loaded}
use Rattle.modes.specs.Modes.{plain, is_known, mode_of}
use Rattle.lookup.specs.Served.{served, get_glyph}
use Rattle.lookup.specs.declared.Served.{Served}
use Rattle.bitmaps.specs.Place.{place_at}
use Rattle.bitmaps.specs.Limits.{ok_place}
use Rattle.bitmaps.specs.Draw.{bitmap_ready, draw_bitmap}
use Rattle.bitmaps.specs.declared.Drawn.{Drawn}
use Rattle.bitmaps.specs.declared.Unpacked.{Unpacked}
use Rattle.place.specs.Info.{prepared_in, prep_char}
use Rattle.place.specs.declared.GlyphInfo.{GlyphInfo}
use Rattle.place.specs.declared.CharPrepared.{CharPrepared}
use Rattle.glyphs.specs.Glyph.{glyph_ready, draw_glyph}
use Rattle.glyphs.specs.Char.{char_ready, draw_char}
use Rattle.glyphs.specs.Unpack.{unpack_glyph}
use Rattle.glyphs.specs.declared.CharDrawn.{CharDrawn}
use Rattle.why.specs.Why.{why_of}
use Rattle.why.specs.declared.Told.{Told}
use Rattle.text.specs.Text.{ready, draw_string}
use Rattle.text.specs.declared.TextDrawn.{TextDrawn}
use Rattle.thalluskin.specs.Pages.{mode_in, stride_of, place_of}
use Rattle.thalluskin.specs.Texts.{layout_of}
use Rattle.thalluskin.specs.declared.PageNumbers.{PageNumbers}
use Rattle.thalluskin.proofs.Strides.{stride_known, stride_unknown}
use Rattle.promises.specs.Exported.{unknown_mode}

-- the numbers of modes, and the plain one's
pub known_modes : (mode : ℕ) → is_known mode ≡ true → (mode_of mode ≡ plain) ⊎ (mode_of mode ≡ record { default = true })
known_modes zero known = inl refl
known_modes (suc zero) known = inr refl
known_modes (suc (suc n)) known = absurd (omega (arith, ltb-true (suc (suc n)) 2 known))

pub plain_number : mode_of 0 ≡ plain
plain_number = refl

-- in a known mode

pub glyph_known : (s : List ℕ) (rec : Record) (code mode : ℕ) → is_known mode ≡ true
    → guarded Served.Refused s rec (is_known mode) (served s rec.codes (mode_of mode) code) ≡ get_glyph s rec (mode_of mode) code
unfolding get_glyph
glyph_known s rec code mode known = rw known refl

pub prep_char_known : (s : List ℕ) (rec : Record) (code mode : ℕ) → is_known mode ≡ true
    → guarded CharPrepared.Refused s rec (is_known mode) (prepared_in s rec (mode_of mode) code) ≡ prep_char s rec (mode_of mode) code
unfolding prep_char
prep_char_known s rec code mode known = rw known refl

pub stride_in_known : (page : PageNumbers) → is_known page.mode ≡ true → page.stride ≡ stride_of page
stride_in_known page known = stride_known page true (sym known) refl

-- in any other number

-- of vetting, whatever the font is
pub vet_unknown : (mode : ℕ) (vetted : Loaded) → is_known mode ≡ false
    → cond (is_known mode) vetted (Loaded.Refused (refusal 15 0)) ≡ Loaded.Refused (refusal 15 0)
vet_unknown mode vetted unknown = rw unknown refl

-- of a call that looks a glyph up or places one
pub guarded_unknown : {A : Type 0} (refused : Refusal → A) (s : List ℕ) (rec : Record) (mode : ℕ) (answer : A) → is_known mode ≡ false
    → guarded refused s rec (is_known mode) answer ≡ refused (unknown_mode s rec)
guarded_unknown refused s rec mode answer unknown =
    rw unknown (split (record_fits (length s) rec) (λ t. rw t refl) (λ t. rw t refl))

-- of one that draws, unpacks or says why: a page without lines is outside the limits
module _ (s : List ℕ) (rec : Record) (page : PageNumbers) (unknown : is_known page.mode ≡ false) where
  unlined : (scale : ℕ) → ok_place (place_at page.start (stride_of page) scale) ≡ false
  unlined scale =
      rw (← stride_unknown page false (sym unknown) refl)
      (split (leb page.start 2147483647) (λ t. rw t refl) (λ t. rw t refl))

  pub draw_bitmap_unknown : (g width height len : ℕ) → draw_bitmap s rec g width height len (place_of page) ≡ Drawn.Refused (unknown_mode s rec)
  unfolding draw_bitmap bitmap_ready
  draw_bitmap_unknown g width height len = rw (unlined page.scale) (split (record_fits (length s) rec) (λ t. rw t refl) (λ t. rw t refl))

  pub draw_glyph_unknown : (info : GlyphInfo) (len : ℕ) → draw_glyph s rec (mode_in page) info len (place_of page) ≡ Drawn.Refused (unknown_mode s rec)
  unfolding draw_glyph glyph_ready ladder
  draw_glyph_unknown info len = rw (unlined page.scale) (split (record_fits (length s) rec) (λ t. rw t refl) (λ t. rw t refl))

  pub draw_char_unknown : (code len : ℕ) → draw_char s rec (mode_in page) code len (place_of page) ≡ CharDrawn.Refused (unknown_mode s rec)
  unfolding draw_char char_ready
  draw_char_unknown code len = rw (unlined page.scale) (split (record_fits (length s) rec) (λ t. rw t refl) (λ t. rw t refl))

  pub why_unknown : (code len : ℕ) → why_of s rec (mode_in page) code len (place_of page) ≡ Told.Refused (unknown_mode s rec)
  unfolding why_of
  why_unknown code len = rw (unlined page.scale) (split (record_fits (length s) rec) (λ t. rw t refl) (λ t. rw t refl))

  pub unpack_glyph_unknown : (info : GlyphInfo) (len : ℕ) → unpack_glyph s rec (mode_in page) info len page.start (stride_of page) ≡ Unpacked.Refused (unknown_mode s rec)
  unfolding unpack_glyph glyph_ready ladder
  unpack_glyph_unknown info len = rw (unlined 1) (split (record_fits (length s) rec) (λ t. rw t refl) (λ t. rw t refl))

  pub draw_string_unknown : (text : List ℕ) (len : ℕ) → draw_string s rec (mode_in page) text len (layout_of page) ≡ TextDrawn.Refused (unknown_mode s rec)
  unfolding draw_string ready
  draw_string_unknown text len = rw (unlined page.scale) (split (record_fits (length s) rec) (λ t. rw t refl) (λ t. rw t refl))

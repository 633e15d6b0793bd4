-- Past the record's test a name's offset is read from inside the bytes.
use mathlib.Core.Path.{◌≡◌}
use mathlib.Core.Bool.{true}
use Prim.Native.Nat.{ℕ, ◌+◌, ◌*◌, ◌≤◌, ◌<◌}
use Rattle.reads.proofs.Tests.{both}
use Rattle.tables.specs.Fits.{inside, names_fit}
use Rattle.tables.specs.declared.GlyphNameData.{GlyphNameData}
use Rattle.tables.proofs.Items.{item_inside}

pub offset_inside : (len : ℕ) (n : GlyphNameData) (g : ℕ) → names_fit len n ≡ true → g < n.count → n.offsets + 4 * g + 4 ≤ len
unfolding names_fit
offset_inside len n g e h =
    item_inside len n.offsets 4 n.count g (both (inside len n.offsets (4 * n.count)) (inside len n.strings n.size) e).0 h

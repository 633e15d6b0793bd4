-- Past the record's test a property's 9 bytes are read from inside the bytes.
use mathlib.Core.Path.{◌≡◌}
use mathlib.Core.Bool.{true}
use Prim.Native.Nat.{ℕ, ◌+◌, ◌*◌, ◌≤◌, ◌<◌}
use Rattle.reads.proofs.Tests.{both}
use Rattle.tables.specs.Fits.{inside, props_fit}
use Rattle.tables.specs.declared.PropertiesData.{PropertiesData}
use Rattle.tables.proofs.Items.{item_inside}

pub record_inside : (len : ℕ) (p : PropertiesData) (i : ℕ) → props_fit len p ≡ true → i < p.count → p.records + 9 * i + 9 ≤ len
unfolding props_fit
record_inside len p i e h =
    item_inside len p.records 9 p.count i (both (inside len p.records (9 * p.count)) (inside len p.strings p.size) e).0 h

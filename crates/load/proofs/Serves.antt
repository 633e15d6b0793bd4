-- A record that loading gave serves with its bytes: no call with both is refused 6.
use mathlib.Core.Path.{◌≡◌, refl, subst}
use mathlib.Core.Bool.{Bool, true, not, ◌&&◌}
use mathlib.Core.List.{List}
use Prim.Native.Nat.{ℕ, zero, suc, ◌+◌, ◌*◌, ◌≤◌}
use native.Mathlib.Omega.{arith}
use lib.ListN.{length}
use lib.Dec.{ltb, eqb}
use Rattle.reads.specs.Num.{u32_at}
use Rattle.reads.proofs.Tests.{split, never, either, both}
use Rattle.tables.specs.Fits.{props_fit, metrics_fit, bitmaps_fit, codes_fit, names_fit, record_fits}
use Rattle.load.specs.declared.Gathered.{Gathered}
use Rattle.load.specs.declared.Entered.{Entered}
use Rattle.load.specs.declared.Loaded.{Loaded}
use Rattle.load.specs.Gather.{nothing, added, all_six, finished}
use Rattle.load.specs.Load.{format_differs, table_in, entry_of, entry_kind, entry_format, entry_offset, entry_end, entry_at, after_entry, entries_from}
use Rattle.load.specs.Load.{directory_count, loaded_in}
use Rattle.tables.specs.declared.TableRead.{TableRead}
use Rattle.tables.specs.declared.Record.{Record}
use Rattle.load.proofs.TablesFit.{ReadFits, table_read}

-- of what the directory has given so far, each table that there is fits
record Fitting (len : ℕ) (g : Gathered) : Type 0 where
  props : g.kinds.props ≡ true → props_fit len g.tables.props ≡ true
  metrics : g.kinds.metrics ≡ true → metrics_fit len g.tables.metrics ≡ true
  bitmaps : g.kinds.bitmaps ≡ true → bitmaps_fit len g.tables.bitmaps ≡ true
  codes : g.kinds.codes ≡ true → codes_fit len g.tables.codes ≡ true
  names : g.kinds.names ≡ true → names_fit len g.tables.names ≡ true

abbrev EnteredFits : ℕ → Entered → Type 0
EnteredFits len (Entered.Next g) = Fitting len g
EnteredFits len (Entered.Refused n) = Unit {0}

-- the table that was read fits, and the others are as before
added_fits : (len : ℕ) (g : Gathered) → Fitting len g → (read : TableRead) → ReadFits len read → EnteredFits len (added g read)
added_fits len g f (TableRead.Properties t) h = search
added_fits len g f (TableRead.Metrics t) h = search
added_fits len g f (TableRead.Bitmaps t) h = search
added_fits len g f (TableRead.Codes t) h = search
added_fits len g f (TableRead.Names t) h = search
added_fits len g f (TableRead.Accelerators t) h = search
added_fits len g f TableRead.Other h = f
added_fits len g f (TableRead.Refused n) h = tt

table_fits : (strict : Bool) (s : List ℕ) (kind format at end : ℕ) → end ≤ length s → ReadFits (length s) (table_in strict s kind format at end)
unfolding table_in
table_fits strict s kind format at end h =
    either (ReadFits (length s)) (strict && format_differs s kind format at end) tt (table_read s at end h kind format)

entry_fits : (strict : Bool) (s : List ℕ) (g : Gathered) → Fitting (length s) g → (k : ℕ) → EnteredFits (length s) (entry_at strict s k g)
unfolding entry_at entry_of
entry_fits strict s g f k =
    let at = entry_offset s k in
    let end = entry_end s k in
    let table = table_in strict s (entry_kind s k) (entry_format s k) at end in
    either (EnteredFits (length s)) (ltb (length s) at) tt
    (added_fits (length s) g f table (table_fits strict s (entry_kind s k) (entry_format s k) at end (omega arith)))

-- what loading gives, with the bytes it was given
abbrev LoadedFits : ℕ → Loaded → Type 0
LoadedFits len (Loaded.Font r) = record_fits len r ≡ true
LoadedFits len (Loaded.Refused r) = Unit {0}

finished_fits : (len : ℕ) (g : Gathered) → Fitting len g → LoadedFits len (finished g)
unfolding finished record_fits
finished_fits len g f =
    let k = g.kinds in
    split (all_six k)
    (λ t.
    let (upto-codes, names) = both (k.props && k.accel && k.metrics && k.bitmaps && k.codes) k.names t in
    let (upto-bitmaps, codes) = both (k.props && k.accel && k.metrics && k.bitmaps) k.codes upto-codes in
    let (upto-metrics, bitmaps) = both (k.props && k.accel && k.metrics) k.bitmaps upto-bitmaps in
    let (upto-accel, metrics) = both (k.props && k.accel) k.metrics upto-metrics in
    let (props, accel) = both k.props k.accel upto-accel in
    rw (t, f.props props, f.metrics metrics, f.bitmaps bitmaps, f.codes codes, f.names names) refl)
    (λ t. rw t tt)

after_fits :
    (len k : ℕ) (rest : Gathered → Loaded) → ((g : Gathered) → Fitting len g → LoadedFits len (rest g))
    → (e : Entered) → EnteredFits len e → LoadedFits len (after_entry e k rest)
after_fits len k rest h (Entered.Next g) f = h g f
after_fits len k rest h (Entered.Refused n) f = tt

entries_fit : (strict : Bool) (s : List ℕ) (n k : ℕ) (g : Gathered) → Fitting (length s) g → LoadedFits (length s) (entries_from strict s n k g)
unfolding entries_from
entries_fit strict s zero k g f = finished_fits (length s) g f
entries_fit strict s (suc n) k g f =
    after_fits (length s) k (λ h. entries_from strict s n (k + 1) h) (λ h. entries_fit strict s n (k + 1) h) (entry_at strict s k g) (entry_fits strict s g f k)

loaded_fits : (strict : Bool) (s : List ℕ) → LoadedFits (length s) (loaded_in strict s)
unfolding loaded_in
loaded_fits strict s =
    let P = LoadedFits (length s) in
    let count = directory_count s in
    either P (ltb (length s) 8) tt
    (either P (not (eqb (u32_at true s 0) 0x01666370)) tt
    (either P (ltb 64 count) tt
    (either P (ltb (length s) (8 + 16 * count)) tt
    (entries_fit strict s count 0 nothing (record { props = never; metrics = never; bitmaps = never; codes = never; names = never })))))

-- the record that loading gives, strict or not, serves with the bytes that it was loaded from
pub loaded_serves : (strict : Bool) (s : List ℕ) (r : Record) → loaded_in strict s ≡ Loaded.Font r → record_fits (length s) r ≡ true
loaded_serves strict s r e = subst (LoadedFits (length s)) e (loaded_fits strict s)

-- "A repeated type [...] the last one serves": a table that was read is the one that the record has then, whatever stood there before.
use mathlib.Core.Path.{◌≡◌, refl}
use Rattle.tables.specs.declared.TableRead.{TableRead}
use Rattle.tables.specs.declared.Record.{Record}
use Rattle.load.specs.declared.Gathered.{Gathered}
use Rattle.load.specs.declared.Entered.{Entered}
use Rattle.load.specs.Gather.{added}

-- this record has this table
abbrev Has : Record → TableRead → Type 0
Has r (TableRead.Properties t) = r.props ≡ t
Has r (TableRead.Accelerators t) = r.accel ≡ t
Has r (TableRead.Metrics t) = r.metrics ≡ t
Has r (TableRead.Bitmaps t) = r.bitmaps ≡ t
Has r (TableRead.Codes t) = r.codes ≡ t
Has r (TableRead.Names t) = r.names ≡ t
Has r TableRead.Other = Unit {0}
Has r (TableRead.Refused n) = Unit {0}

abbrev Serves : TableRead → Entered → Type 0
Serves read (Entered.Next g) = Has g.tables read
Serves read (Entered.Refused n) = read ≡ TableRead.Refused n

pub last_serves : (g : Gathered) (read : TableRead) → Serves read (added g read)
last_serves g (TableRead.Properties t) = refl
last_serves g (TableRead.Accelerators t) = refl
last_serves g (TableRead.Metrics t) = refl
last_serves g (TableRead.Bitmaps t) = refl
last_serves g (TableRead.Codes t) = refl
last_serves g (TableRead.Names t) = refl
last_serves g TableRead.Other = tt
last_serves g (TableRead.Refused n) = refl

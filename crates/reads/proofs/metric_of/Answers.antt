use Rattle.reads.proofs.Signed.{shifted_is}
use Rattle.reads.proofs.metric_of.Goals as goal

-- src/lib.rt:144:1
pub returns : goal.returns
returns c = search shifted_is

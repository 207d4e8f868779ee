use Rattle.std.proofs.Common.{refl, rules}
use Rattle.vr_json.proofs.Steps.{then, gives, asked}
use Rattle.vr_read.specs.StopRows.{interval}
use Rattle.vr_read.proofs.stop_rows.IntervalTableReader.read.Goals as goal

pub returns : goal.returns
unfolding interval
returns c = then _ c.in_ok-ends.ensures (then _ (asked _ (search rules) refl c.in_ok-refuse_if.ensures) (gives (search rules)))

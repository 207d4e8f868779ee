use Rattle.std.proofs.Common.{rules}
use Rattle.vr_json.proofs.Steps.{then, gives}
use Rattle.vr_read.specs.StopRows.{limits}
use Rattle.vr_read.proofs.stop_rows.limits.Goals as goal

pub returns : goal.returns
unfolding limits
returns c = then _ c.in_ok-window.ensures (then _ c.in_ok-forbidden.ensures (then _ c.in_ok-soft.ensures (gives (search rules))))

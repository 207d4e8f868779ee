use Rattle.std.proofs.Common.{rules}
use Rattle.vr_json.proofs.Steps.{then, gives}
use Rattle.vr_printed.specs.Tables.{plan}
use Rattle.vr_printed.proofs.tables.PlanTableTable.read.Goals as goal

pub returns : goal.returns
unfolding plan
returns c = then _ c.in_ok-breaks.ensures
    (then _ c.in_ok-cumuls.ensures (then _ c.in_ok-name.ensures (then _ c.in_ok-slacks.ensures (then _ c.in_ok-known.ensures (gives (search rules))))))

use Rattle.std.proofs.Common.{rules}
use Rattle.vr_json.proofs.Steps.{then, stops, gives}
use Rattle.vr_read.specs.Models.{visit_tables}
use Rattle.vr_read.proofs.model.read_visit_tables.Goals as goal

pub returns-in_err-allowed : goal.returns-in_err-allowed
unfolding visit_tables
returns-in_err-allowed c =
    then _ c.in_ok-groups.ensures (then _ c.in_ok-pairs.ensures (stops _ _ c.in_err-allowed.ensures c.from_residual-in_err-allowed.ensures.1))

pub returns : goal.returns
unfolding visit_tables
returns c = then _ c.in_ok-groups.ensures (then _ c.in_ok-pairs.ensures (then _ c.in_ok-allowed.ensures (gives (search rules))))

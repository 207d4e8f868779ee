use Rattle.std.proofs.Common.{rules}
use Rattle.vr_json.proofs.Steps.{then, gives}
use Rattle.vr_read.specs.Visits.{group}
use Rattle.std.proofs.Common.{arith}
use Rattle.vr_json.proofs.Readings.{field_length}
use Rattle.vr_read.proofs.groups.GroupTableTable.read.Goals as goal

pub returns : goal.returns
unfolding group
returns c = then _ c.in_ok-nodes.ensures
    (then _ c.in_ok-penalty.ensures (then _ (rw c.len-count.ensures at c.in_ok-max.ensures) (then _ c.in_ok-known.ensures (gives (search rules)))))

pub overflow_cast-count : goal.overflow_cast-count
overflow_cast-count c = let within = field_length _ 1 1000 _ _ _ _ c.in_ok-nodes.ensures in omega (arith, within.at_most, c.len-count.ensures)

use Rattle.std.proofs.Common.{refl, rules}
use Rattle.vr_json.proofs.Steps.{then, gives, asked}
use Rattle.vr_read.specs.Visits.{group_node}
use Rattle.vr_read.proofs.groups.GroupNodeReader.read.Goals as goal

pub returns : goal.returns
unfolding group_node
returns c = then _ c.in_ok-node.ensures (then _ (asked _ (search rules) refl c.in_ok-refuse_if.ensures) (gives (search rules)))

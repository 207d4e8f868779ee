use Rattle.std.proofs.Common.{true, arith}
use Rattle.std.proofs.lemmas.Int.{ints}
use Rattle.vr_model.specs.tables.Tables.{arc_cost, vehicle_at}
use Rattle.vr_balance.specs.Sums.{line_nodes}
use Rattle.vr_arccosts.specs.Chains.{turned}
use Rattle.vr_arccosts.proofs.LineLemmas.{arc-value}
use Rattle.vr_arccosts.proofs.lines.Along.step.Goals as goal

pub returns : goal.returns
returns c list n h arc =
    let m = c.args.closed.model.now in
    let v = c.args.v in
    let a = c.arc_cost.ensures in
    let b = c.arc_cost-2.ensures in
    let ahead = arc-value m v list n c.args.at c.args.next arc (arc_cost m v) in
    let behind = arc-value m v list n c.args.at c.args.next arc (turned true (arc_cost m v)) in
    record {
      ahead = c.extend.ensures (arc_cost m v) (vehicle_at m v).start (line_nodes m v list)
          n h.ahead arc.inside (omega (arith, ints, a.value, a.not_negative, a.bound, ahead));
      behind = c.extend-2.ensures (turned true (arc_cost m v)) (vehicle_at m v).start (line_nodes m v list)
          n h.behind arc.inside (omega (arith, ints, b.value, b.not_negative, b.bound, behind));
    }

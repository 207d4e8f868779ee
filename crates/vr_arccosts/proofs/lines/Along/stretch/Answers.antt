use Rattle.std.proofs.Common.{sym, arith}
use Rattle.std.proofs.lemmas.Int.{ints}
use Rattle.vr_model.specs.tables.Tables.{arc_cost, vehicle_at}
use Rattle.vr_balance.specs.Sums.{line_nodes}
use Rattle.vr_arccosts.proofs.LineLemmas.{line-long, stretch-kept}
use Rattle.vr_arccosts.proofs.PathLemmas.{stretch-unused}
use Rattle.vr_arccosts.proofs.lines.Along.stretch.Goals as goal

pub returns-then-nodes-eq0-clause-value : goal.returns-then-nodes-eq0-clause-value
returns-then-nodes-eq0-clause-value c model v list h =
    let long = line-long model v list in
    let many = h.ahead.many in
    let nodes = c.requires.nodes in
    let none = c.if-nodes-eq0.true in
    sym (stretch-unused model v list c.args.front c.args.behind c.requires.order (omega (arith, long, many, nodes, none)))

pub returns-clause-value : goal.returns-clause-value
returns-clause-value c model v list h =
    let long = line-long model v list in
    let many = h.ahead.many in
    let nodes = c.requires.nodes in
    let some = c.if-nodes-eq0.false in
    let place = c.requires.place in
    let b = c.between.ensures in
    let kept = b.value (arc_cost model v) (vehicle_at model v).start (line_nodes model v list) h.ahead in
    let same = stretch-kept model v list c.args.front c.args.behind c.requires.order
    (omega (arith, long, many, nodes, place)) (omega (arith, long, many, nodes, some)) in
    omega (arith, ints, kept, same, b.range.at_least, b.range.at_most)

use Rattle.std.proofs.Common.{true, false, ap, arith}
use Rattle.std.proofs.lemmas.Int.{ints}
use Rattle.vr_model.specs.tables.Tables.{arc_cost, vehicle_at}
use Rattle.vr_arccosts.specs.Chains.{chain_of, chain_sum, turned}
use Rattle.vr_balance.specs.Sums.{line_nodes}
use Rattle.vr_arccosts.proofs.LineLemmas.{chain-kept}
use Rattle.vr_arccosts.proofs.lines.Along.chain.Goals as goal

pub returns-then-reversed-clause-value : goal.returns-then-reversed-clause-value
returns-then-reversed-clause-value c model v list h within =
    let b = c.between.ensures in
    let kept = b.value (turned true (arc_cost model v)) (vehicle_at model v).start (line_nodes model v list) h.behind in
    let same = chain-kept model v list c.args.from c.args.to c.requires.order within true in
    let way = ap (λ r. chain_sum (arc_cost model v) (chain_of r list c.args.from c.args.to)) c.if-reversed.true in
    omega (arith, ints, kept, same, way, b.range.at_least, b.range.at_most)

pub returns-else-reversed-clause-value : goal.returns-else-reversed-clause-value
returns-else-reversed-clause-value c model v list h within =
    let b = c.between-else-reversed.ensures in
    let kept = b.value (turned false (arc_cost model v)) (vehicle_at model v).start (line_nodes model v list) h.ahead in
    let same = chain-kept model v list c.args.from c.args.to c.requires.order within false in
    let way = ap (λ r. chain_sum (arc_cost model v) (chain_of r list c.args.from c.args.to)) c.if-reversed.false in
    omega (arith, ints, kept, same, way, b.range.at_least, b.range.at_most)

use Rattle.std.proofs.Common.{arith}
use Rattle.std.proofs.lemmas.Int.{ints}
use Rattle.vr_arccosts.proofs.RunLemmas.{ends-told}
use Rattle.vr_arccosts.proofs.lines.Line.ends_added.Goals as goal

pub returns-clause-value : goal.returns-clause-value
returns-clause-value c =
    let a = c.args in
    let line = a.self.now in
    let to = c.cost-to.ensures in
    let on = c.cost-on.ensures in
    let old = c.stretch-old.ensures in
    let is = ends-told line.costs.model.now line.costs.vehicle line.list.now a.front a.behind a.ends.first a.ends.last
    c.node_before.ensures.value c.node_at.ensures.value to.value on.value (old.value line.costs.model.now line.costs.vehicle line.list.now line.sound.sums) in
    omega (arith, ints, is, to.not_negative, to.bound, on.not_negative, on.bound, old.range.at_least, old.range.at_most)

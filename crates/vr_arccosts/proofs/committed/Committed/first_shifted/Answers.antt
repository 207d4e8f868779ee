use Rattle.std.proofs.Common.{ℕ, List, rules, w64, to_z, of_z, arith}
use Rattle.std.proofs.lemmas.Int.{ints}
use Rattle.vr_model.specs.declared.records.Model.{Model}
use Rattle.vr_arccosts.proofs.RunLemmas.{shift-told}
use Rattle.vr_arccosts.proofs.committed.Committed.first_shifted.Goals as goal

pub invariant_of-put : goal.invariant_of-put
invariant_of-put c = record { sound = record { first_known = search rules; last_known = search rules; range = search rules } }

pub returns-clause-no_less : goal.returns-clause-no_less
returns-clause-no_less c t low high =
    let model : Model = c.args.self.kept.now.model in
    let lists : List (List ℕ) = c.args.self.routes.now.lists in
    let v = c.args.v in
    let a = c.args.a in
    let k = c.args.k in
    let line = c.line_of-line in
    let left = c.left_added-left.ensures in
    let many = c.vehicles.ensures.value in
    let known = c.if-v-vehicles.false in
    let long = c.len-n.ensures.value in
    let some = c.if-k-eq0.false in
    let few = c.if-k-n.false in
    let within = c.if-a-n.false in
    shift-told model lists v a k t c.args.asked.bound (to_z w64 (of_z w64 c.left_added-left.result))
    (omega (arith, many, known)) (omega (arith, some)) (omega (arith, long, few, within)) (omega (arith, ints, left.value, left.range.low, left.range.high))
    line.result.costs.model.now line.result.costs.vehicle c.node_at.result c.node_at-2.result line.result.list.now
    line.ensures.model line.ensures.vehicle line.ensures.list c.node_at.ensures c.node_at-2.ensures
    (c.first_around.ensures.in_front t low high) (c.first_around.ensures.behind t low high)

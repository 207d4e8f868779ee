use Rattle.std.proofs.Common.{◌≡◌, ◌∙◌, ◌-◌, ℕ, List, ap, arith}
use Rattle.std.proofs.lemmas.Int.{ints}
use Rattle.std.specs.Prelude.{slice_index_or}
use Rattle.vr_model.specs.tables.Tables.{arc_cost, vehicle_at}
use Rattle.vr_arccosts.specs.Runs.{at_place}
use Rattle.vr_arccosts.proofs.CrossLemmas.{front-given}
use Rattle.vr_arccosts.proofs.fronts.BothFronts.with_front.Goals as goal

pub returns-clause-value : goal.returns-clause-value
returns-clause-value c =
    let model = c.args.self.now.fronts.line.now.costs.model.now in
    let v = c.args.self.now.fronts.line.now.costs.vehicle in
    let list : List ℕ = c.args.self.now.fronts.line.now.list.now in
    let other : List ℕ = c.args.self.now.fronts.other.now.list.now in
    let x : ℕ = slice_index_or other 0 0 in
    let y : ℕ = slice_index_or other (c.args.self.now.b - 1) 0 in
    let to = c.cost-to.ensures in
    let on = c.cost-on.ensures in
    let to-is : c.cost-to.result ≡ arc_cost model v (vehicle_at model v).start x = to.value ∙ ap (λ n. arc_cost model v n x) c.start.ensures.value in
    let on-is : c.cost-on.result ≡ arc_cost model v y (at_place model v list c.args.self.now.fronts.a) = on.value
    ∙ ap (arc_cost model v y) c.node_at.ensures.value in
    let is = front-given model v list other c.args.self.now.fronts.a c.args.self.now.b c.args.self.now.some c.args.self.now.within in
    let inner = c.args.self.now.inner_is in
    let range = c.args.self.now.inner_range in
    omega (arith, ints, to-is, on-is, is, inner, range.low, range.high, to.not_negative, to.bound, on.not_negative, on.bound)

use Rattle.std.proofs.Common.{◌≡◌, ◌∙◌, ap, arith}
use Rattle.std.proofs.lemmas.Int.{ints}
use Rattle.std.specs.Prelude.{slice_index_or}
use Rattle.vr_model.specs.tables.Tables.{arc_cost, vehicle_at}
use Rattle.vr_model.specs.declared.records.Model.{Model}
use Rattle.vr_arccosts.proofs.fronts.Fronts.base.Goals as goal

pub returns-clause-value : goal.returns-clause-value
returns-clause-value c =
    let model : Model = c.args.self.now.line.now.costs.model.now in
    let v = c.args.self.now.line.now.costs.vehicle in
    let w = c.args.self.now.other.now.costs.vehicle in
    let first = slice_index_or c.args.self.now.other.now.list.now 0 0 in
    let from = c.cost-from.ensures in
    let left = c.cost-left.ensures in
    let front = c.front_added-front.ensures in
    let from-is : c.cost-from.result ≡ arc_cost model v (vehicle_at model v).start first = from.value
    ∙ ap (λ n. arc_cost model v n first) c.start.ensures.value in
    let left-is : c.cost-left.result ≡ arc_cost model w (vehicle_at model w).start first =
    left.value ∙ (ap (λ (m : Model). arc_cost m w c.start-2.result first) c.args.self.now.same
    ∙ ap (λ n. arc_cost model w n first) (c.start-2.ensures.value ∙ ap (λ (m : Model). (vehicle_at m w).start) c.args.self.now.same)) in
    omega (arith, ints, from-is, left-is, front.value, front.range.low, front.range.high, from.not_negative, from.bound, left.not_negative, left.bound)

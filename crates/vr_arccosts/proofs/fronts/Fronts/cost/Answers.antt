use Rattle.std.proofs.Common.{◌≡◌, ◌∙◌, ℕ, List, take, ap, sym, arith}
use Rattle.std.proofs.lemmas.Int.{ints}
use Rattle.std.specs.Prelude.{slice_index_or}
use Rattle.vr_model.specs.tables.Tables.{arc_cost, vehicle_at}
use Rattle.vr_model.specs.declared.records.Model.{Model}
use Rattle.vr_balance.specs.Sums.{path_sum}
use Rattle.vr_arccosts.specs.Chains.{chain_sum}
use Rattle.vr_arccosts.proofs.CrossLemmas.{front-sum}
use Rattle.vr_arccosts.proofs.fronts.Fronts.cost.Goals as goal

pub returns-then-self-eq0-clause-value : goal.returns-then-self-eq0-clause-value
returns-then-self-eq0-clause-value c =
    let model = c.args.self.now.line.now.costs.model.now in
    let w = c.args.self.now.other.now.costs.vehicle in
    let list : List ℕ = c.args.self.now.line.now.list.now in
    sym (ap (λ n. path_sum (arc_cost model w) (vehicle_at model w).start (take n list)) c.if-self-eq0.true)

pub returns-clause-value : goal.returns-clause-value
returns-clause-value c =
    let model : Model = c.args.self.now.line.now.costs.model.now in
    let w = c.args.self.now.other.now.costs.vehicle in
    let list : List ℕ = c.args.self.now.line.now.list.now in
    let x = slice_index_or list 0 0 in
    let to = c.cost-to.ensures in
    let along = c.costs_along.ensures in
    let some = c.if-self-eq0.false in
    let to-is : c.cost-to.result ≡ arc_cost model w (vehicle_at model w).start x =
    to.value ∙ (ap (λ (m : Model). arc_cost m w c.start.result x) c.args.self.now.same
    ∙ ap (λ n. arc_cost model w n x) (c.start.ensures.value ∙ ap (λ (m : Model). (vehicle_at m w).start) c.args.self.now.same)) in
    let along-is : c.costs_along.result ≡ chain_sum (arc_cost model w) (take c.args.self.now.a list) = along.value
    ∙ ap (λ (m : Model). chain_sum (arc_cost m w) (take c.args.self.now.a list)) c.args.self.now.same in
    let sum = front-sum model w list c.args.self.now.a (omega (arith, some)) c.args.self.now.place in
    omega (arith, ints, to-is, along-is, sum, to.not_negative, to.bound, along.range.low, along.range.high)

use Rattle.std.proofs.Common.{◌≡◌, ◌∙◌, ◌+◌, ◌<◌, false, ℕ, List, take, ap, sym, subst, arith}
use Rattle.std.proofs.lemmas.Int.{ints}
use Rattle.std.proofs.lemmas.List.{take_all}
use Rattle.std.specs.Prelude.{All}
use Rattle.vr_model.specs.tables.Tables.{arc_cost}
use Rattle.vr_model.specs.declared.records.Model.{Model}
use Rattle.vr_balance.specs.Sums.{IsUpTo}
use Rattle.vr_arccosts.specs.Chains.{chain_sum, turned}
use Rattle.vr_arccosts.proofs.ChainLemmas.{chain-next, costs-of, so-far}
use Rattle.vr_arccosts.proofs.fronts.BothFronts.inner_behind.Goals as goal

pub returns-then-self-list-clause-value : goal.returns-then-self-list-clause-value
returns-then-self-list-clause-value c =
    let cost = arc_cost c.args.self.now.fronts.line.now.costs.model.now c.args.self.now.fronts.line.now.costs.vehicle in
    let other : List ℕ = c.args.self.now.fronts.other.now.list.now in
    let all = c.if-self-list.true in
    let is : c.args.self.now.inner ≡ chain_sum cost (take (c.args.self.now.b + 1) other) = c.args.self.now.inner_is
    ∙ ap (chain_sum cost) (take_all c.args.self.now.b other (omega (arith, all)) ∙ sym (take_all (c.args.self.now.b + 1) other (omega (arith, all)))) in
    let range = c.args.self.now.inner_range in
    omega (arith, ints, is, range.low, range.high)

pub returns-clause-value : goal.returns-clause-value
returns-clause-value c =
    let cost = arc_cost c.args.self.now.fronts.line.now.costs.model.now c.args.self.now.fronts.line.now.costs.vehicle in
    let other : List ℕ = c.args.self.now.fronts.other.now.list.now in
    let place = c.args.self.now.within in
    let more = c.if-self-list.false in
    let next = chain-next cost other c.args.self.now.b c.args.self.now.some (omega (arith, place, more)) in
    let inner = c.args.self.now.inner_is in
    let range = c.args.self.now.inner_range in
    let step = c.cost.ensures in
    omega (arith, ints, next, inner, range.low, range.high, step.value, step.not_negative, step.bound)

pub returns-clause-range : goal.returns-clause-range
returns-clause-range c =
    let costs = c.args.self.now.fronts.line.now.costs in
    let model : Model = c.args.self.now.fronts.line.now.costs.model.now in
    let v = c.args.self.now.fronts.line.now.costs.vehicle in
    let cost = arc_cost model v in
    let other : List ℕ = c.args.self.now.fronts.other.now.list.now in
    let nodes : All (λ node. node < model.nodes) other = subst (λ (m : Model). All (λ node. node < m.nodes) other)
    c.args.self.now.fronts.same c.args.self.now.fronts.other.now.sound.nodes in
    let u : IsUpTo (c.args.self.now.b + 1) (chain_sum cost (take (c.args.self.now.b + 1) other)) = so-far model.nodes
    (turned false cost) (costs-of model costs.well_formed v costs.there false) other nodes (c.args.self.now.b + 1) in
    let few = c.args.self.now.fronts.other.now.sound.few in
    let place = c.args.self.now.within in
    let more = c.if-self-list.false in
    let next = chain-next cost other c.args.self.now.b c.args.self.now.some (omega (arith, place, more)) in
    let inner = c.args.self.now.inner_is in
    let range = c.args.self.now.inner_range in
    let step = c.cost.ensures in
    record {
      low = omega (arith, ints, next, inner, range.low, range.high, step.value, step.not_negative, step.bound, u.low);
      high = omega (arith, ints, next, inner, range.low, range.high, step.value, step.not_negative, step.bound, u.high, few, place, more);
    }

use Rattle.std.proofs.Common.{◌≡◌, ◌∙◌, ◌<◌, ℕ, List, false, ap, sym, subst, arith}
use Rattle.std.proofs.lemmas.Int.{ints}
use Rattle.std.specs.Prelude.{slice_range, All}
use Rattle.vr_model.specs.tables.Tables.{arc_cost, vehicle_at, no_vehicle}
use Rattle.vr_model.specs.routes.Routes.{route}
use Rattle.vr_balance.specs.Sums.{IsUpTo}
use Rattle.vr_balance.proofs.Paths.{read-up}
use Rattle.vr_arccosts.specs.Chains.{chain_of, chain_sum, turned}
use Rattle.vr_arccosts.proofs.ChainLemmas.{same-costs, up-to-few}
use Rattle.vr_arccosts.proofs.LineLemmas.{along-at, few-along}
use Rattle.vr_arccosts.proofs.PieceLemmas.{chain-costs, chain-length, all-of-chain}
use Rattle.vr_arccosts.proofs.walks.Driven.chain_cost.Goals as goal

pub costs_along-requires-clause-nodes : goal.costs_along-requires-clause-nodes
costs_along-requires-clause-nodes c =
    let list : List ℕ = route c.args.self.now.routes.now.lists c.args.w in
    subst (λ l. All (λ node. node < c.args.self.now.costs.now.model.now.nodes) (slice_range l c.args.from c.args.to)) (sym c.list.ensures.value)
    (all-of-chain (λ node. node < c.args.self.now.costs.now.model.now.nodes) list c.args.from c.args.to c.args.reversed c.requires.nodes)

pub returns-then-get-clause-value : goal.returns-then-get-clause-value
returns-then-get-clause-value c =
    let list : List ℕ = route c.args.self.now.routes.now.lists c.args.w in
    let cost = arc_cost c.args.self.now.costs.now.model.now c.args.self.now.costs.now.vehicle in
    let a = c.costs_along.ensures in
    let v = a.value ∙ ap (λ l. chain_sum (turned c.args.reversed cost) (slice_range l c.args.from c.args.to)) c.list.ensures.value in
    let e = chain-costs cost list c.args.from c.args.to c.args.reversed in
    omega (arith, ints, a.range.low, a.range.high, v, e)

pub returns-then-get-clause-range : goal.returns-then-get-clause-range
returns-then-get-clause-range c =
    let a = c.costs_along.ensures.range in
    subst (IsUpTo 1000) (sym (read-up 1000 c.costs_along.result a (omega arith))) a

pub returns-clause-value : goal.returns-clause-value
returns-clause-value c =
    let model = c.args.self.now.costs.now.model.now in
    let v = c.args.self.now.costs.now.vehicle in
    let w = c.args.w in
    let list : List ℕ = route c.args.self.now.routes.now.lists w in
    let as_many = c.args.self.now.have.as_many in
    let many = c.args.self.now.have.many in
    let other = c.requires.other in
    let kept = along-at model c.args.self.now.routes.now.lists c.args.self.now.along.now w c.index-along-w.result
    c.args.self.now.have.along (omega (arith, as_many, many)) (omega (arith, as_many, other)) c.index-along-w.is in
    let chain : List ℕ = chain_of c.args.reversed list c.args.from c.args.to in
    let a = c.chain.ensures in
    let value = a.value model w list kept c.requires.within in
    let costs : (vehicle_at model v).costs ≡ (vehicle_at model w).costs = ap (λ x. x.costs) (c.get.ensures.value no_vehicle)
    ∙ c.if-get.false ∙ ap (λ x. x.costs) (sym (c.get-2.ensures.value no_vehicle)) in
    let same = same-costs model v w false chain costs in
    omega (arith, ints, a.range.at_least, a.range.at_most, value, same)

pub returns-clause-range : goal.returns-clause-range
returns-clause-range c =
    let model = c.args.self.now.costs.now.model.now in
    let w = c.args.w in
    let list : List ℕ = route c.args.self.now.routes.now.lists w in
    let as_many = c.args.self.now.have.as_many in
    let many = c.args.self.now.have.many in
    let other = c.requires.other in
    let kept = along-at model c.args.self.now.routes.now.lists c.args.self.now.along.now w c.index-along-w.result
    c.args.self.now.have.along (omega (arith, as_many, many)) (omega (arith, as_many, other)) c.index-along-w.is in
    let few = few-along model w list c.index-along-w.result kept in
    let long = chain-length list c.args.from c.args.to c.requires.order c.requires.within c.args.reversed in
    let within = c.requires.within in
    subst (IsUpTo 1000) (sym (returns-clause-value c))
    (up-to-few model c.args.self.now.costs.now.well_formed c.args.self.now.costs.now.vehicle c.args.self.now.costs.now.there
    false (chain_of c.args.reversed list c.args.from c.args.to) (omega (arith, few, long, within)) c.requires.nodes)

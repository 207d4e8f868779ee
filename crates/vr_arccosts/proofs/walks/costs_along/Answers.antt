use Rattle.std.proofs.Common.{◌∙◌, ap, sym, subst, arith}
use Rattle.std.proofs.lemmas.Int.{ints}
use Rattle.std.proofs.lemmas.List.{take_all}
use Rattle.vr_model.specs.tables.Tables.{arc_cost}
use Rattle.vr_balance.specs.Sums.{IsUpTo}
use Rattle.vr_arccosts.specs.Chains.{chain_sum, turned}
use Rattle.vr_arccosts.proofs.ChainLemmas.{chain-one, chain-next, costs-of, so-far, up-to-few}
use Rattle.vr_arccosts.proofs.walks.costs_along.Goals as goal

pub loop-k-init : goal.loop-k-init
loop-k-init c = sym (chain-one (turned c.args.reversed (arc_cost c.args.costs.now.model.now c.args.costs.now.vehicle)) c.args.chain.now)

pub overflow_add-cost : goal.overflow_add-cost
overflow_add-cost c =
    let cost = turned c.args.reversed (arc_cost c.args.costs.now.model.now c.args.costs.now.vehicle) in
    let u = so-far c.args.costs.now.model.now.nodes cost
    (costs-of c.args.costs.now.model.now c.args.costs.now.well_formed c.args.costs.now.vehicle c.args.costs.now.there c.args.reversed)
    c.args.chain.now c.requires.nodes c.loop-k.k in
    let b = c.turned-cost.ensures in
    omega (arith, ints, u.low, u.high, b.not_negative, b.bound, c.loop-k.cost-is, c.loop-k.invariant, c.loop-k-test.true, c.requires.few)

pub loop-k-preserved : goal.loop-k-preserved
loop-k-preserved c =
    let cost = turned c.args.reversed (arc_cost c.args.costs.now.model.now c.args.costs.now.vehicle) in
    let u = so-far c.args.costs.now.model.now.nodes cost
    (costs-of c.args.costs.now.model.now c.args.costs.now.well_formed c.args.costs.now.vehicle c.args.costs.now.there c.args.reversed)
    c.args.chain.now c.requires.nodes c.loop-k.k in
    let b = c.turned-cost.ensures in
    let next = chain-next cost c.args.chain.now c.loop-k.k c.loop-k.auto.k c.loop-k-test.true in
    omega (arith, ints, u.low, u.high, b.value, b.not_negative, b.bound, c.loop-k.cost-is, c.loop-k.invariant, c.loop-k-test.true, c.requires.few, next)

pub returns-clause-value : goal.returns-clause-value
returns-clause-value c =
    c.loop-k.invariant ∙ ap (chain_sum (turned c.args.reversed (arc_cost c.args.costs.now.model.now c.args.costs.now.vehicle)))
    (take_all c.loop-k.k c.args.chain.now c.loop-k-test.false)

pub returns-clause-range : goal.returns-clause-range
returns-clause-range c =
    let u = up-to-few c.args.costs.now.model.now c.args.costs.now.well_formed c.args.costs.now.vehicle
    c.args.costs.now.there c.args.reversed c.args.chain.now c.requires.few c.requires.nodes in
    subst (IsUpTo 1000)
    (sym
    (c.loop-k.invariant ∙ ap (chain_sum (turned c.args.reversed (arc_cost c.args.costs.now.model.now c.args.costs.now.vehicle)))
    (take_all c.loop-k.k c.args.chain.now c.loop-k-test.false))) u

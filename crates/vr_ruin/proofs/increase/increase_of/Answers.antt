use Rattle.std.proofs.Common.{◌≡◌, ◌∙◌, ◌-ℤ◌, ap, arith, of_z, subst, sym, to_z, w64}
use Rattle.std.proofs.lemmas.Int.{ints}
use Rattle.vr_model.specs.routes.Routes.{route_cost}
use Rattle.vr_ruin.specs.Placings.{placed, AreWithin}
use Rattle.vr_ruin.specs.declared.placing.Placing.TheVariants.{One, Two}
use Rattle.vr_ruin.proofs.IncreaseLemmas.{increase-is}
use Rattle.vr_ruin.proofs.increase.increase_of.Goals as goal

pub returns-in-One-clause-value : goal.returns-in-One-clause-value
returns-in-One-clause-value c =
    let model = c.args.list.now.closed.model.now in
    let v = c.args.list.now.vehicle in
    let list = c.args.list.now.nodes.now in
    let fits : to_z w64 (of_z w64 c.visit_increase.result) ≡ c.visit_increase.result =
    omega (arith, ints, c.visit_increase.ensures.low, c.visit_increase.ensures.high) in
    fits ∙ c.visit_increase.ensures.value
    ∙ increase-is model v list (One c.in-One.node c.in-One.t) (subst (AreWithin list) c.in-One.is c.requires.within)
    ∙ ap (λ p. route_cost model v (placed list p) -ℤ route_cost model v list) (sym c.in-One.is)

pub returns-in-Two-clause-value : goal.returns-in-Two-clause-value
returns-in-Two-clause-value c =
    let model = c.args.list.now.closed.model.now in
    let v = c.args.list.now.vehicle in
    let list = c.args.list.now.nodes.now in
    let fits : to_z w64 (of_z w64 c.pair_increase.result) ≡ c.pair_increase.result =
    omega (arith, ints, c.pair_increase.ensures.low, c.pair_increase.ensures.high) in
    fits ∙ c.pair_increase.ensures.value
    ∙ increase-is model v list (Two c.in-Two.pickup c.in-Two.delivery c.in-Two.s c.in-Two.t) (subst (AreWithin list) c.in-Two.is c.requires.within)
    ∙ ap (λ p. route_cost model v (placed list p) -ℤ route_cost model v list) (sym c.in-Two.is)

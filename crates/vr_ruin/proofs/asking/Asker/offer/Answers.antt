use Rattle.std.proofs.Common.{◌≡◌, ◌∙◌, ◌<◌, ◌-ℤ◌, ℤ, ap, arith, length, of_z, subst, sym, to_z, w64}
use Rattle.std.proofs.lemmas.Int.{ints}
use Rattle.std.specs.Prelude.{IsTrue}
use Rattle.std.specs.List.{list_all}
use Rattle.vr_model.specs.routes.Routes.{route_cost}
use Rattle.vr_model.specs.tables.Tables.{is_visit}
use Rattle.vr_lists.proofs.VisitLists.{visits-below}
use Rattle.vr_rules.specs.Placing.{item_nodes}
use Rattle.vr_ruin.specs.Placings.{item_in, placed}
use Rattle.vr_ruin.specs.declared.placing.Offer.{Offer}
use Rattle.vr_ruin.proofs.asking.Asker.offer.Goals as goal

pub invariant_of-driven : goal.invariant_of-driven
invariant_of-driven c =
    let model = c.self.inside.lookups.closed.model.now in
    record {
      there = subst (λ m. c.args.list.vehicle < length m.vehicles) (sym c.self.view_is) c.requires.vehicle;
      below = visits-below model c.args.list.nodes.now
          (subst (λ m. IsTrue (list_all (is_visit m) c.args.list.nodes.now)) (sym c.self.view_is) c.requires.may.visits);
    }

pub increase_of-requires-clause-nodes : goal.increase_of-requires-clause-nodes
increase_of-requires-clause-nodes c =
    let model = c.self.inside.lookups.closed.model.now in
    visits-below model (item_nodes (item_in c.args.placing))
    (subst (λ m. IsTrue (list_all (is_visit m) (item_nodes (item_in c.args.placing)))) (sym c.self.view_is) c.requires.may.item_visits)

pub returns : goal.returns
returns c =
    let fits : to_z w64 (of_z w64 c.increase_of.result) ≡ c.increase_of.result = omega (arith, ints, c.increase_of.ensures.low, c.increase_of.ensures.high) in
    let list = c.args.list.nodes.now in
    let v = c.args.list.vehicle in
    ap (λ (x : ℤ). let made : Offer = record { placing = c.args.placing; vehicle = v; increase = x } in made)
    (fits ∙ c.increase_of.ensures.value ∙ ap (λ m. route_cost m v (placed list c.args.placing) -ℤ route_cost m v list) c.self.view_is)

use Rattle.std.proofs.Common.{◌<◌, [], ◌∷◌, ap, arith, length, subst, sym}
use Rattle.std.specs.Prelude.{IsTrue}
use Rattle.std.specs.List.{list_all}
use Rattle.std.proofs.lemmas.Int.{ints}
use Rattle.vr_model.specs.tables.Tables.{is_visit}
use Rattle.vr_lists.proofs.VisitLists.{visits-below}
use Rattle.vr_ruin.specs.Arcs.{AreArcsIfUsed}
use Rattle.vr_ruin.specs.Increases.{visit_increase}
use Rattle.vr_ruin.proofs.asking.Asker.next_below.Goals as goal

pub invariant_of-driven : goal.invariant_of-driven
invariant_of-driven c =
    let model = c.self.inside.lookups.closed.model.now in
    record {
      there = subst (λ m. c.args.list.vehicle < length m.vehicles) (sym c.self.view_is) c.requires.vehicle;
      below = visits-below model c.args.list.nodes.now
          (subst (λ m. IsTrue (list_all (is_visit m) c.args.list.nodes.now)) (sym c.self.view_is) c.requires.may.visits);
    }

pub arcs_to-costs-requires-clause-vehicle : goal.arcs_to-costs-requires-clause-vehicle
arcs_to-costs-requires-clause-vehicle c = subst (λ m. c.args.list.vehicle < length m.vehicles) (sym c.self.view_is) c.requires.vehicle

pub arcs_to-costs-requires-clause-node : goal.arcs_to-costs-requires-clause-node
arcs_to-costs-requires-clause-node c =
    let model = c.self.inside.lookups.closed.model.now in
    visits-below model (c.args.node ∷ [])
    (subst (λ m. IsTrue (list_all (is_visit m) (c.args.node ∷ []))) (sym c.self.view_is) c.requires.may.item_visits) 0 0 (omega arith)

pub next_place-requires-clause-visit : goal.next_place-requires-clause-visit
next_place-requires-clause-visit c =
    let model = c.self.inside.lookups.closed.model.now in
    visits-below model (c.args.node ∷ [])
    (subst (λ m. IsTrue (list_all (is_visit m) (c.args.node ∷ []))) (sym c.self.view_is) c.requires.may.item_visits) 0 0 (omega arith)

pub next_place-requires-clause-arcs : goal.next_place-requires-clause-arcs
next_place-requires-clause-arcs c =
    let model = c.self.inside.lookups.closed.model.now in
    let v = c.args.list.vehicle in
    let list = c.args.list.nodes.now in
    let known = c.args.list.known.now in
    subst (AreArcsIfUsed model v list) (sym c.as_slice.ensures)
    (subst (λ nodes. AreArcsIfUsed model v nodes known.arcs) c.requires.known.nodes_are
    (subst (λ m. AreArcsIfUsed m v known.nodes known.arcs) (sym c.self.view_is) c.requires.known.known.arcs_are))

pub returns-clause-above : goal.returns-clause-above
returns-clause-above c = λ u low high.
    let v = c.args.list.vehicle in
    let list = c.args.list.nodes.now in
    let same = ap (λ m. visit_increase m v list c.args.node u) c.self.view_is in
    let more = c.next_place.ensures.above u low high in
    omega (arith, ints, same, more, c.ranges.bound)

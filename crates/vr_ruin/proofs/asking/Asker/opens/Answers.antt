use Rattle.std.proofs.Common.{◌∙◌, ◌<◌, ap, length, subst, sym}
use Rattle.std.specs.List.{list_all}
use Rattle.vr_model.specs.tables.Tables.{is_visit}
use Rattle.vr_model.specs.routes.Routes.{is_distinct}
use Rattle.vr_model.specs.routes.Rules.{is_route_open}
use Rattle.vr_reach.specs.Lists.{IsUsed}
use Rattle.vr_reach.specs.Stretches.{SharesEnds}
use Rattle.vr_rules.specs.Placing.{item_nodes}
use Rattle.vr_rules.specs.RoutesOpen.{is_feasible_in_each}
use Rattle.vr_ruin.specs.Carrying.{carries_all}
use Rattle.vr_ruin.specs.Known.{shared_of, IsCarriedBy, IsKnownRoute}
use Rattle.vr_ruin.specs.Placings.{item_in, placed, MayHold}
use Rattle.vr_ruin.proofs.AskLemmas.{distinct_after, visits_after}
use Rattle.vr_ruin.proofs.CarryingLemmas.{loads-feasible, open-if_free, plain-open}
use Rattle.vr_ruin.proofs.TimelessLemmas.{some-placed}
use Rattle.vr_ruin.proofs.InsertedLemmas.{placed-shares, placed-used}
use Rattle.vr_ruin.proofs.asking.Asker.opens.Goals as goal

pub write_placed-requires-clause-few : goal.write_placed-requires-clause-few
write_placed-requires-clause-few c = c.requires.may.few

pub returns-then-self-clause-open : goal.returns-then-self-clause-open
returns-then-self-clause-open c =
    let model = c.self.inside.lookups.closed.model.now in
    let list = c.args.list.nodes.now in
    let v = c.args.list.vehicle in
    sym (plain-open model c.self.inside.lookups.closed.well_formed v
    (subst (λ m. v < length m.vehicles) (sym c.self.view_is) c.requires.vehicle) list c.args.placing c.requires.within
    (c.self.invariant.carrier_is.plain_is c.if-self.true)
    (ap (λ m. carries_all m v list (item_nodes (item_in c.args.placing))) c.self.view_is ∙ c.requires.ready.carries))
    ∙ ap (λ m. is_route_open m v (placed list c.args.placing)) c.self.view_is

pub goes_in_each-requires-clause-may : goal.goes_in_each-requires-clause-may
goes_in_each-requires-clause-may c =
    let model = c.self.inside.lookups.closed.model.now in
    let list = c.args.list.nodes.now in
    let placing = c.args.placing in
    let v = c.args.list.vehicle in
    let same = sym c.self.view_is in
    let written = sym (c.as_slice-nodes.ensures ∙ c.in_ok-write_placed.ensures) in
    record {
      vehicle = subst (λ m. v < length m.vehicles) same c.requires.vehicle;
      known = subst (λ m. IsKnownRoute m v c.args.list.known.now) same c.requires.ready.known.known;
      used =
          subst (IsUsed model) written (placed-used model list placing c.requires.within (subst (λ m. MayHold m list (item_in placing)) same c.requires.may));
      shared = subst (SharesEnds c.args.list.known.now.nodes c.as_slice-nodes.result.now) (sym c.shared_with.ensures)
          (subst (λ new. SharesEnds c.args.list.known.now.nodes new (shared_of (length list) placing)) written
          (subst (λ old. SharesEnds old (placed list placing) (shared_of (length list) placing))
          (sym c.requires.ready.known.nodes_are) (placed-shares list placing c.requires.within)));
    }

pub goes_in_each-requires-clause-carried : goal.goes_in_each-requires-clause-carried
goes_in_each-requires-clause-carried c =
    let model = c.self.inside.lookups.closed.model.now in
    let list = c.args.list.nodes.now in
    let v = c.args.list.vehicle in
    let same = sym c.self.view_is in
    subst (IsCarriedBy model v) (sym (c.as_slice-nodes.ensures ∙ c.in_ok-write_placed.ensures))
    (loads-feasible model c.self.inside.lookups.closed.well_formed v
    (subst (λ m. v < length m.vehicles) same c.requires.vehicle) list c.args.placing c.requires.within
    (ap (λ m. carries_all m v list (item_nodes (item_in c.args.placing))) c.self.view_is ∙ c.requires.ready.carries))

pub keeps_rest-requires-clause-visits : goal.keeps_rest-requires-clause-visits
keeps_rest-requires-clause-visits c =
    let model = c.self.inside.lookups.closed.model.now in
    ap (list_all (is_visit model)) (c.as_slice-nodes.ensures ∙ c.in_ok-write_placed.ensures)
    ∙ visits_after model c.args.list.nodes.now c.args.placing c.requires.within
    (subst (λ m. MayHold m c.args.list.nodes.now (item_in c.args.placing)) (sym c.self.view_is) c.requires.may)

pub keeps_rest-requires-clause-distinct : goal.keeps_rest-requires-clause-distinct
keeps_rest-requires-clause-distinct c =
    let model = c.self.inside.lookups.closed.model.now in
    ap is_distinct (c.as_slice-nodes.ensures ∙ c.in_ok-write_placed.ensures)
    ∙ distinct_after model c.args.list.nodes.now c.args.placing c.requires.within
    (subst (λ m. MayHold m c.args.list.nodes.now (item_in c.args.placing)) (sym c.self.view_is) c.requires.may)

pub returns-then-self-2-clause-open : goal.returns-then-self-2-clause-open
returns-then-self-2-clause-open c =
    let model = c.self.inside.lookups.closed.model.now in
    let v = c.args.list.vehicle in
    let list = c.args.list.nodes.now in
    let after = placed list c.args.placing in
    let same = c.as_slice-nodes.ensures ∙ c.in_ok-write_placed.ensures in
    open-if_free model v after (c.self.invariant.carrier_is.free_is c.if-self-2.true) (some-placed list c.args.placing)
    (sym c.if-not-branch.false ∙ c.in_ok-goes_in_each.ensures ∙ ap (is_feasible_in_each model v) same)
    ∙ ap (λ m. is_route_open m v after) c.self.view_is

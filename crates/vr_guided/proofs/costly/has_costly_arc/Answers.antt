use Rattle.std.proofs.Common.{◌≡◌, ◌∙◌, Bool, true, false, length, sym, ap, arith}
use Rattle.std.specs.List.{list_any, range_with_len}
use Rattle.vr_model.specs.tables.Numbers.{each}
use Rattle.vr_model.specs.routes.Routes.{arcs_of, route}
use Rattle.vr_guided.specs.Guides.{is_costly}
use Rattle.vr_guided.proofs.ArcLemmas.{some_of_this, none_of_this, none_left}
use Rattle.vr_guided.proofs.ListLemmas.{few_nodes, has_list, vehicles_left}
use Rattle.vr_guided.proofs.costly.has_costly_arc.Goals.{After-is_route_costly}
use Rattle.vr_guided.proofs.costly.has_costly_arc.Goals as goal

-- whether an arc of this vehicle is costly
decides : (c : After-is_route_costly) (b : Bool) → c.is_route_costly.result ≡ b → list_any (is_costly c.args.closed.model.now)
    (arcs_of c.args.closed.model.now c.loop-vehicle.vehicle (route c.args.routes.now.lists c.loop-vehicle.vehicle)) ≡ b
decides c b is = sym (c.is_route_costly.ensures
    ∙ ap (λ xs. list_any (is_costly c.args.closed.model.now) (arcs_of c.args.closed.model.now c.loop-vehicle.vehicle xs)) c.list.ensures.value) ∙ is

pub loop-vehicle-init : goal.loop-vehicle-init
loop-vehicle-init c =
    ap (λ k. list_any (is_costly c.args.closed.model.now)
    (each (range_with_len 0 k) (λ v. arcs_of c.args.closed.model.now v (route c.args.routes.now.lists v))))
    (vehicles_left c.args.closed.model.now c.args.routes.now.lists c.requires.valid)

pub returns-then-is_route_costly : goal.returns-then-is_route_costly
returns-then-is_route_costly c =
    sym (some_of_this (is_costly c.args.closed.model.now) (λ v. arcs_of c.args.closed.model.now v (route c.args.routes.now.lists v))
    c.loop-vehicle.vehicle (length c.args.closed.model.now.vehicles)
    (omega (arith, c.loop-vehicle-test.true, c.len-vehicle-end.ensures))
    (decides (goal.at.returns-then-is_route_costly c).After-is_route_costly true c.if-is_route_costly.true)) ∙ c.loop-vehicle.invariant

pub loop-vehicle-preserved : goal.loop-vehicle-preserved
loop-vehicle-preserved c =
    sym (none_of_this (is_costly c.args.closed.model.now) (λ v. arcs_of c.args.closed.model.now v (route c.args.routes.now.lists v))
    c.loop-vehicle.vehicle (length c.args.closed.model.now.vehicles)
    (omega (arith, c.loop-vehicle-test.true, c.len-vehicle-end.ensures))
    (decides (goal.at.loop-vehicle-preserved c).After-is_route_costly false c.if-is_route_costly.false)) ∙ c.loop-vehicle.invariant

pub returns : goal.returns
returns c = sym (none_left (is_costly c.args.closed.model.now) (λ v. arcs_of c.args.closed.model.now v (route c.args.routes.now.lists v))
    c.loop-vehicle.vehicle (length c.args.closed.model.now.vehicles)
    (omega (arith, c.loop-vehicle-test.false, c.len-vehicle-end.ensures, c.args.closed.well_formed.number_of_vehicles.at_most))) ∙ c.loop-vehicle.invariant

pub list-requires : goal.list-requires
list-requires c =
    record { vehicle = has_list c.args.closed.model.now c.args.routes.now.lists c.requires.valid c.loop-vehicle-test.true c.len-vehicle-end.ensures }

pub invariant_of-list : goal.invariant_of-list
invariant_of-list c = record {
  there = omega (arith, c.loop-vehicle-test.true, c.len-vehicle-end.ensures);
  few = few_nodes c.args.closed.model.now c.args.routes.now.lists c.requires.valid c.args.closed.well_formed c.loop-vehicle.vehicle c.list.ensures.value;
}

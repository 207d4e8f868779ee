use Rattle.std.proofs.Common.{◌∙◌, ◌-◌, ◌+◌, ◌<◌, ℕ, List, length, refl, sym, ap, arith}
use Rattle.std.specs.List.{range_with_len}
use Rattle.vr_model.specs.tables.Numbers.{each}
use Rattle.vr_model.specs.routes.Routes.{UsedArc, arcs_of, route, used_arcs}
use Rattle.vr_guided.specs.Counts.{counted}
use Rattle.vr_guided.specs.Worths.{greatest_worth, raised_in_turn, worth_of, worthless}
use Rattle.vr_guided.proofs.ArcLemmas.{each_onward}
use Rattle.vr_guided.proofs.ListLemmas.{few_nodes, has_list, vehicles_left}
use Rattle.vr_guided.proofs.RaiseLemmas.{raised_all, in_turn_more, at_most_more}
use Rattle.vr_guided.proofs.penalties.Penalties.raise.Goals as goal

pub loop-vehicle-init : goal.loop-vehicle-init
loop-vehicle-init c =
    let model = c.args.closed.model.now in
    let lists = c.args.routes.now.lists in
    let old = counted c.args.self.now in
    record {
      goes = ap (λ best. raised_in_turn model best old (each (range_with_len 0 (length model.vehicles - 0)) (λ v. arcs_of model v (route lists v))))
          c.greatest-greatest.ensures
          ∙ (ap (λ k. raised_in_turn model (greatest_worth (worth_of model old) worthless (used_arcs model lists))
          old (each (range_with_len 0 k) (λ v. arcs_of model v (route lists v))))
          (vehicles_left c.args.closed.model.now c.args.routes.now.lists c.requires.valid)
          ∙ raised_all model old lists c.requires.costly);
      nodes = c.requires.counts.covers;
      few = at_most_more old 1000000000 _ (omega arith) c.requires.counts.few;
      fewer = λ k u w h. h;
      spares = λ k r u w one two origin target from to. refl;
      learns = λ h. h;
    }

pub loop-vehicle-preserved : goal.loop-vehicle-preserved
loop-vehicle-preserved c =
    let model = c.args.closed.model.now in
    let arcs : ℕ → List UsedArc = λ v. arcs_of c.args.closed.model.now v (route c.args.routes.now.lists v) in
    let v = c.loop-vehicle.vehicle in
    let n = length c.args.closed.model.now.vehicles in
    let best = c.greatest-greatest.result in
    let before = counted c.loop-vehicle.self in
    let rest = each (range_with_len (v + 1) (n - (v + 1))) arcs in
    let low : v < n = omega (arith, c.loop-vehicle-test.true, c.len-vehicle-end.ensures) in
    let here = c.raise_vehicle.ensures.raised ∙ ap (λ xs. raised_in_turn model best before (arcs_of model v xs)) c.list.ensures.value in
    record {
      goes = ap (λ q. raised_in_turn model best q rest) here
          ∙ (sym (in_turn_more model best before (arcs v) rest)
          ∙ (sym (ap (raised_in_turn model best before) (each_onward arcs v n low)) ∙ c.loop-vehicle.invariant.goes));
      nodes = c.raise_vehicle.ensures.covers ∙ c.loop-vehicle.invariant.nodes;
      few = c.raise_vehicle.ensures.few;
      fewer = λ k u w h. c.loop-vehicle.invariant.fewer k u w (c.raise_vehicle.ensures.fewer k u w h);
      spares = c.raise_vehicle.ensures.spares c.args.routes.now.lists (counted c.args.self.now) c.list.ensures.value c.loop-vehicle.invariant.spares;
      learns = λ h. c.loop-vehicle.invariant.learns (c.raise_vehicle.ensures.learns h);
    }

pub returns-clause-fewer : goal.returns-clause-fewer
returns-clause-fewer c k u w h = c.loop-vehicle.invariant.fewer k u w (c.settle.ensures.fewer k u w h)

pub returns-clause-spares : goal.returns-clause-spares
returns-clause-spares c k r u w one two = c.loop-vehicle.invariant.spares k r u w (c.settle.ensures.earlier k r u one) (c.settle.ensures.earlier k r w two)

pub returns-clause-learns : goal.returns-clause-learns
returns-clause-learns c h = c.loop-vehicle.invariant.learns (c.settle.ensures.learns h)

pub list-requires : goal.list-requires
list-requires c =
    record { vehicle = has_list c.args.closed.model.now c.args.routes.now.lists c.requires.valid c.loop-vehicle-test.true c.len-vehicle-end.ensures }

pub invariant_of-list : goal.invariant_of-list
invariant_of-list c = record {
  there = omega (arith, c.loop-vehicle-test.true, c.len-vehicle-end.ensures);
  few = few_nodes c.args.closed.model.now c.args.routes.now.lists c.requires.valid c.args.closed.well_formed c.loop-vehicle.vehicle c.list.ensures.value;
}

use Rattle.std.proofs.Common.{◌∙◌, ◌-◌, ◌+◌, ◌<◌, ℕ, List, length, sym, ap, arith}
use Rattle.std.specs.List.{range_with_len}
use Rattle.vr_model.specs.tables.Numbers.{each}
use Rattle.vr_model.specs.routes.Routes.{UsedArc, arcs_of, route}
use Rattle.vr_guided.specs.Counts.{counted}
use Rattle.vr_guided.specs.Worths.{greatest_worth, worth_of, worthless}
use Rattle.vr_guided.proofs.ArcLemmas.{each_onward}
use Rattle.vr_guided.proofs.ListLemmas.{few_nodes, has_list, vehicles_left}
use Rattle.vr_guided.proofs.WorthLemmas.{greatest_more}
use Rattle.vr_guided.proofs.penalties.Penalties.greatest.Goals as goal

pub loop-vehicle-init : goal.loop-vehicle-init
loop-vehicle-init c =
    ap (λ k. greatest_worth (worth_of c.args.closed.model.now (counted c.args.self.now)) worthless
    (each (range_with_len 0 k) (λ v. arcs_of c.args.closed.model.now v (route c.args.routes.now.lists v))))
    (vehicles_left c.args.closed.model.now c.args.routes.now.lists c.requires.valid)

pub list-requires : goal.list-requires
list-requires c =
    record { vehicle = has_list c.args.closed.model.now c.args.routes.now.lists c.requires.valid c.loop-vehicle-test.true c.len-vehicle-end.ensures }

pub invariant_of-list : goal.invariant_of-list
invariant_of-list c = record {
  there = omega (arith, c.loop-vehicle-test.true, c.len-vehicle-end.ensures);
  few = few_nodes c.args.closed.model.now c.args.routes.now.lists c.requires.valid c.args.closed.well_formed c.loop-vehicle.vehicle c.list.ensures.value;
}

pub loop-vehicle-preserved : goal.loop-vehicle-preserved
loop-vehicle-preserved c =
    let arcs : ℕ → List UsedArc = λ v. arcs_of c.args.closed.model.now v (route c.args.routes.now.lists v) in
    let v = c.loop-vehicle.vehicle in
    let n = length c.args.closed.model.now.vehicles in
    let low : v < n = omega (arith, c.loop-vehicle-test.true, c.len-vehicle-end.ensures) in
    let worth = worth_of c.args.closed.model.now (counted c.args.self.now) in
    let here = c.greatest_in-best.ensures ∙ ap (λ xs. greatest_worth worth c.loop-vehicle.best (arcs_of c.args.closed.model.now v xs)) c.list.ensures.value in
    ap (λ b. greatest_worth worth b (each (range_with_len (v + 1) (n - (v + 1))) arcs)) here
    ∙ (sym (greatest_more worth c.loop-vehicle.best (arcs v) (each (range_with_len (v + 1) (n - (v + 1))) arcs))
    ∙ (sym (ap (greatest_worth worth c.loop-vehicle.best) (each_onward arcs v n low)) ∙ c.loop-vehicle.invariant))

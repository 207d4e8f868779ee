use Rattle.std.proofs.Common.{◌∙◌, ◌<◌, ◌++◌, ◌+◌, ℕ, List, length, length-set, ap, sym, subst, arith, take}
use Rattle.std.specs.Prelude.{slice_index}
use Rattle.std.proofs.lemmas.Grind.{take_at_read}
use Rattle.vr_model.specs.routes.Routes.{route}
use Rattle.vr_routes.specs.Tours.{HaveVisits}
use Rattle.vr_routes.proofs.TourLemmas.{put_behind, visits_after_put}
use Rattle.vr_routes.proofs.ListsLemmas.{next_visit, next_free}
use Rattle.vr_routes.proofs.routes.seat_list.Goals as goal

pub loop-node-preserved : goal.loop-node-preserved
loop-node-preserved c =
    let old : List (List ℕ) = c.args.seating.now.lists in
    let now : List (List ℕ) = c.loop-node.seating.lists in
    let v = c.args.v in
    let i = c.loop-node.node-index in
    let low : v < length now =
    omega (arith, c.requires.vehicle, ap length c.loop-node.invariant.lists, length-set old v (route old v ++ take i c.args.list.now)) in
    let x : ℕ = slice_index c.args.list.now i in
    record {
      nodes = c.put.ensures.nodes ∙ c.loop-node.invariant.nodes;
      lists = put_behind old now c.put.new.self.lists v x (take i c.args.list.now) (take (i + 1) c.args.list.now) c.requires.vehicle
          c.loop-node.invariant.lists c.put.ensures.lists (take_at_read c.args.list.now i 0 c.loop-node-test.true).1;
      visits = subst (HaveVisits c.args.model.now) (sym c.put.ensures.lists)
          (visits_after_put c.args.model.now now v x low c.loop-node.invariant.visits (sym c.is_visit.ensures ∙ c.if-not-is_visit.false));
    }

pub returns-then-not-is_visit-clause-passes : goal.returns-then-not-is_visit-clause-passes
returns-then-not-is_visit-clause-passes c visits once =
    sym c.if-not-is_visit.true ∙ c.is_visit.ensures
    ∙ next_visit c.args.model.now c.args.seating.now.lists c.args.v c.loop-node.node-index c.args.list.now c.requires.vehicle c.loop-node-test.true visits

pub returns-then-is_active-clause-passes : goal.returns-then-is_active-clause-passes
returns-then-is_active-clause-passes c visits once =
    sym (next_free c.args.seating.now.lists c.loop-node.seating.lists c.args.v c.loop-node.node-index
    c.args.list.now c.requires.vehicle c.loop-node.invariant.lists c.loop-node-test.true once)
    ∙ sym c.is_active.ensures ∙ c.if-is_active.true

use Rattle.std.proofs.Common.{◌≡◌, ◌∙◌, ◌<◌, length, sym, ap, subst, arith}
use Rattle.std.specs.Prelude.{All}
use Rattle.std.proofs.lemmas.List.{length-map}
use Rattle.vr_model.specs.tables.Tables.{visits}
use Rattle.vr_model.specs.routes.Routes.{route}
use Rattle.vr_routes.specs.Indices.{start_node_of, end_node_of}
use Rattle.vr_routes.proofs.TourLemmas.{visits_below, few_visits, seen}
use Rattle.vr_routes.proofs.indices.Indices.new.Goals as goal

pub invariant_of-result : goal.invariant_of-result
invariant_of-result c =
    let m = c.args.model.now in
    let few = few_visits m in
    let nodes = c.requires.well_formed.number_of_nodes.1 in
    let fleet = c.requires.well_formed.number_of_vehicles.at_most in
    let list : route c.in_ok-visits.visits.lists 0 ≡ visits m = seen c.in_ok-visits.ensures.lists in
    let long = ap length list in
    let starts : length c.in_ok-starts.starts.items ≡ length m.vehicles = ap length c.in_ok-starts.ensures ∙ length-map m.vehicles start_node_of in
    let ends : length c.in_ok-ends.ends.items ≡ length m.vehicles = ap length c.in_ok-ends.ensures ∙ length-map m.vehicles end_node_of in
    record {
      one_list = ap length c.in_ok-visits.ensures.lists;
      few_visits = omega (arith, few, nodes, long);
      few_vehicles = omega (arith, starts, fleet);
      as_many_ends = ends ∙ sym starts;
      each_visit_is_node = subst (λ l. All (λ node. node < c.in_ok-visits.visits.nodes) l) (sym list)
          (subst (λ n. All (λ node. node < n) (visits m)) (sym c.in_ok-visits.ensures.nodes) (visits_below m));
    }

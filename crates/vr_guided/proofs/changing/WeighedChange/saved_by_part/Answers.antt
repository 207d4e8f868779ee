use Rattle.std.proofs.Common.{◌≡◌, to_z, of_z, List, ℕ, drop, ap, sym, subst, arith}
use Rattle.std.specs.Int.{w128}
use Rattle.std.specs.Prelude.{◌-ℤ◌, ◌≤ℤ◌}
use Rattle.std.proofs.lemmas.Int.{ints}
use Rattle.vr_model.specs.routes.Routes.{route}
use Rattle.vr_model.specs.tables.Tables.{vehicle_at}
use Rattle.vr_routes.specs.Pieces.{joined, part_at}
use Rattle.vr_guided.specs.Counts.{counted}
use Rattle.vr_guided.specs.Walks.{route_weight}
use Rattle.vr_guided.proofs.BoundLemmas.{part_saved}
use Rattle.vr_guided.proofs.WalkLemmas.{some_next}
use Rattle.vr_guided.proofs.changing.WeighedChange.saved_by_part.Goals as goal

pub returns-clause-most : goal.returns-clause-most
returns-clause-most c =
    let it = c.args.self.now.of in
    let m = it.weights.closed.model.now in
    let p = counted it.weights.penalties.now in
    let lists = it.routes.now.lists in
    let splice = c.splice-splice in
    let v = splice.result.vehicle in
    let list : List ℕ = route lists v in
    let pieces = (part_at c.args.self.now.change.now c.args.k).pieces in
    let part = splice.ensures.part in
    let o = c.old_stretch.ensures in
    let next = some_next (drop splice.result.behind list) (vehicle_at m v).end in
    let saved : (route_weight m p v list -ℤ route_weight m p v (joined lists pieces)) ≤ℤ c.old_stretch.result
    = subst (λ z. (route_weight m p v list -ℤ route_weight m p v (joined lists pieces)) ≤ℤ z) (sym (o.total next.0 next.1.0 next.1.1))
    (part_saved m it.weights.closed.well_formed p it.weights.few v part.of_model lists pieces splice.result.middle.now
    splice.result.front splice.result.behind next.0 next.1.0 splice.ensures.ends next.1.1 part.nodes) in
    let same : to_z w128 (of_z w128 c.old_stretch.result) ≡ c.old_stretch.result = omega (arith, ints, o.low, o.high) in
    let there = ap (λ u. route_weight m p u (joined lists pieces) -ℤ route_weight m p u (route lists u)) splice.ensures.vehicle in
    omega (arith, ints, same, saved, there)

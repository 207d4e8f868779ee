use Rattle.std.proofs.Common.{◌≡◌, ◌∙◌, ◌++◌, ◌∷◌, [], ℕ, List, length, drop, to_z, of_z, ap, sym, subst, arith}
use Rattle.std.specs.Int.{w128}
use Rattle.std.specs.Prelude.{◌≤ℤ◌, slice_range}
use Rattle.std.proofs.lemmas.Int.{ints}
use Rattle.std.proofs.lemmas.List.{drop_all, take_all}
use Rattle.std.proofs.lemmas.Slice.{between_from_start}
use Rattle.vr_model.specs.routes.Routes.{route}
use Rattle.vr_model.specs.tables.Tables.{vehicle_at}
use Rattle.vr_guided.specs.Counts.{counted}
use Rattle.vr_guided.specs.Walks.{route_weight, stretch_weight}
use Rattle.vr_guided.proofs.BoundLemmas.{whole_most}
use Rattle.vr_guided.proofs.ListLemmas.{list_of_each}
use Rattle.vr_guided.proofs.changing.WeighedRoutes.saved_by_list.Goals as goal

pub invariant_of-stretches : goal.invariant_of-stretches
invariant_of-stretches c = record {
  there = (
      let many = list_of_each c.args.self.now.weights.closed.model.now c.args.self.now.routes.now.lists c.args.self.now.valid in
      let low = c.requires in
      omega (arith, many, low));
}

pub returns-clause-most : goal.returns-clause-most
returns-clause-most c =
    let m = c.args.self.now.weights.closed.model.now in
    let p = counted c.args.self.now.weights.penalties.now in
    let v = c.args.v in
    let list : List ℕ = route c.args.self.now.routes.now.lists v in
    let start = (vehicle_at m v).start in
    let last = (vehicle_at m v).end in
    let many = list_of_each m c.args.self.now.routes.now.lists c.args.self.now.valid in
    let low = c.requires in
    let n = c.len.result in
    let is : n ≡ length list = c.len.ensures.value in
    let o = c.old_stretch.ensures in
    let behind : drop n list ++ last ∷ [] ≡ last ∷ [] = ap (λ xs. xs ++ last ∷ []) (drop_all n list (omega (arith, is))) in
    let middle : slice_range list 0 n ≡ list = between_from_start list n ∙ take_all n list (omega (arith, is)) in
    let total : c.old_stretch.result ≡ stretch_weight m p v start list last = o.total last [] behind ∙ ap (λ xs. stretch_weight m p v start xs last) middle in
    let same : to_z w128 (of_z w128 c.old_stretch.result) ≡ c.old_stretch.result = omega (arith, ints, o.low, o.high) in
    let most = whole_most m c.args.self.now.weights.closed.well_formed p c.args.self.now.weights.few v (omega (arith, many, low)) list in
    subst (λ z. route_weight m p v list ≤ℤ z) (sym (same ∙ total)) most

use Rattle.std.proofs.Common.{◌≡◌, to_z, of_z, sym, subst, arith}
use Rattle.std.specs.Int.{w128}
use Rattle.std.specs.Prelude.{◌+ℤ◌}
use Rattle.std.proofs.lemmas.Int.{ints}
use Rattle.vr_model.specs.declared.neighbours.Move.TheVariants.{Relocate}
use Rattle.vr_guided.specs.Counts.{counted}
use Rattle.vr_guided.specs.Savings.{SavesAtMost}
use Rattle.vr_guided.proofs.RunLemmas.{relocating}
use Rattle.vr_guided.proofs.changing.WeighedRoutes.saved_by_relocating.Goals as goal

pub returns-clause-most : goal.returns-clause-most
returns-clause-most c =
    let here = c.args.self.now in
    let o = c.saved_at_place.ensures in
    let q = c.most_of.ensures in
    let most = c.most_of.result.now.most_at_gap in
    let same : to_z w128 (of_z w128 (to_z w128 (of_z w128 c.saved_at_place.result) +ℤ to_z w128 (of_z w128 most))) ≡ c.saved_at_place.result +ℤ most =
    omega (arith, ints, o.low, o.high, q.gap_in_range.at_least, q.gap_in_range.at_most) in
    subst (SavesAtMost here.weights.closed.model.now (counted here.weights.penalties.now)
    here.routes.now.lists (Relocate c.args.touched.first c.args.a c.args.touched.second 0)) (sym same)
    (relocating here.weights.closed.model.now (counted here.weights.penalties.now) here.routes.now.lists
    here.valid c.args.touched.first c.args.a c.args.touched.second c.saved_at_place.result most o.most q.gap)

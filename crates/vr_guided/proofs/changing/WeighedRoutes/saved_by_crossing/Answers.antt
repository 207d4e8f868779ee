use Rattle.std.proofs.Common.{◌≡◌, to_z, of_z, refl, sym, subst, arith}
use Rattle.std.specs.Int.{w128}
use Rattle.std.specs.Prelude.{◌+ℤ◌}
use Rattle.std.proofs.lemmas.Int.{ints}
use Rattle.vr_model.specs.declared.neighbours.Move.TheVariants.{Cross}
use Rattle.vr_guided.specs.Counts.{counted}
use Rattle.vr_guided.specs.Savings.{SavesAtMost}
use Rattle.vr_guided.proofs.CrossLemmas.{crossing}
use Rattle.vr_guided.proofs.ListLemmas.{list_of_each}
use Rattle.vr_guided.proofs.SavingLemmas.{run_saved}
use Rattle.vr_guided.proofs.changing.WeighedRoutes.saved_by_crossing.Goals as goal

pub returns-then-not-are_alike-clause-most : goal.returns-then-not-are_alike-clause-most
returns-then-not-are_alike-clause-most c =
    let here = c.args.self.now in
    let o = c.saved_by_lists.ensures in
    let same : to_z w128 (of_z w128 c.saved_by_lists.result) ≡ c.saved_by_lists.result = omega (arith, ints, o.low, o.high) in
    subst (SavesAtMost here.weights.closed.model.now (counted here.weights.penalties.now)
    here.routes.now.lists (Cross c.args.touched.first c.args.a c.args.touched.second 0)) (sym same)
    (run_saved here.weights.closed.model.now here.weights.closed.well_formed
    (counted here.weights.penalties.now) here.weights.few here.routes.now.lists here.valid
    (Cross c.args.touched.first c.args.a c.args.touched.second 0) c.args.touched refl c.saved_by_lists.result o.most)

pub returns-clause-most : goal.returns-clause-most
returns-clause-most c =
    let here = c.args.self.now in
    let model = here.weights.closed.model.now in
    let p = counted here.weights.penalties.now in
    let o = c.saved_at_gap.ensures in
    let q = c.most_of.ensures in
    let most = c.most_of.result.now.most_at_gap in
    let same : to_z w128 (of_z w128 (to_z w128 (of_z w128 c.saved_at_gap.result) +ℤ to_z w128 (of_z w128 most))) ≡ c.saved_at_gap.result +ℤ most =
    omega (arith, ints, o.low, o.high, q.gap_in_range.at_least, q.gap_in_range.at_most) in
    let many = list_of_each model here.routes.now.lists here.valid in
    let first = c.requires.first in
    let second = c.requires.second in
    subst (SavesAtMost model p here.routes.now.lists (Cross c.args.touched.first c.args.a c.args.touched.second 0)) (sym same)
    (crossing model here.weights.closed.well_formed p here.weights.few here.routes.now.lists here.valid
    c.args.touched.first c.args.touched.second (omega (arith, many, first)) (omega (arith, many, second))
    (c.are_alike.ensures c.if-not-are_alike.false) c.args.a c.saved_at_gap.result most o.most q.cut)

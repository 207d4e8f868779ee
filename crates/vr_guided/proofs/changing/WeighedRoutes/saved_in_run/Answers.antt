use Rattle.std.proofs.Common.{◌≡◌, to_z, of_z, sym, subst, arith}
use Rattle.std.specs.Int.{w128}
use Rattle.std.proofs.lemmas.Int.{ints}
use Rattle.vr_guided.specs.Counts.{counted}
use Rattle.vr_guided.specs.Savings.{SavesAtMost}
use Rattle.vr_guided.proofs.RunLemmas.{as_relocating, as_exchanging, as_crossing, as_making_active, making_active}
use Rattle.vr_guided.proofs.SavingLemmas.{run_saved}
use Rattle.vr_guided.proofs.changing.WeighedRoutes.saved_in_run.Goals as goal

pub returns-in-Relocate-clause-most : goal.returns-in-Relocate-clause-most
returns-in-Relocate-clause-most c =
    let here = c.args.self.now in
    let model = here.weights.closed.model.now in
    let p = counted here.weights.penalties.now in
    let o = c.saved_by_relocating.ensures in
    let same : to_z w128 (of_z w128 c.saved_by_relocating.result) ≡ c.saved_by_relocating.result = omega (arith, ints, o.low, o.high) in
    subst (SavesAtMost model p here.routes.now.lists c.args.mv) (sym same)
    (as_relocating model p here.routes.now.lists c.args.mv c.args.touched
    c.saved_by_relocating.result c.requires.found _ c.in-Relocate.a _ _ c.in-Relocate.is o.most)

pub returns-in-Exchange-clause-most : goal.returns-in-Exchange-clause-most
returns-in-Exchange-clause-most c =
    let here = c.args.self.now in
    let model = here.weights.closed.model.now in
    let p = counted here.weights.penalties.now in
    let o = c.saved_by_exchanging.ensures in
    let same : to_z w128 (of_z w128 c.saved_by_exchanging.result) ≡ c.saved_by_exchanging.result = omega (arith, ints, o.low, o.high) in
    subst (SavesAtMost model p here.routes.now.lists c.args.mv) (sym same)
    (as_exchanging model p here.routes.now.lists c.args.mv c.args.touched
    c.saved_by_exchanging.result c.requires.found _ c.in-Exchange.a _ _ c.in-Exchange.is o.most)

pub returns-in-Cross-clause-most : goal.returns-in-Cross-clause-most
returns-in-Cross-clause-most c =
    let here = c.args.self.now in
    let model = here.weights.closed.model.now in
    let p = counted here.weights.penalties.now in
    let o = c.saved_by_crossing.ensures in
    let same : to_z w128 (of_z w128 c.saved_by_crossing.result) ≡ c.saved_by_crossing.result = omega (arith, ints, o.low, o.high) in
    subst (SavesAtMost model p here.routes.now.lists c.args.mv) (sym same)
    (as_crossing model p here.routes.now.lists c.args.mv c.args.touched c.saved_by_crossing.result c.requires.found _ c.in-Cross.a _ _ c.in-Cross.is o.most)

pub returns-in-MakeActive-clause-most : goal.returns-in-MakeActive-clause-most
returns-in-MakeActive-clause-most c =
    let here = c.args.self.now in
    let model = here.weights.closed.model.now in
    let p = counted here.weights.penalties.now in
    let q = c.most_of.ensures in
    let most = c.most_of.result.now.most_at_gap in
    let same : to_z w128 (of_z w128 c.most_of.result.now.most_at_gap) ≡ c.most_of.result.now.most_at_gap =
    omega (arith, ints, q.gap_in_range.at_least, q.gap_in_range.at_most) in
    subst (SavesAtMost model p here.routes.now.lists c.args.mv) (sym same)
    (as_making_active model p here.routes.now.lists c.args.mv c.args.touched most c.requires.found _ _ _ c.in-MakeActive.is
    (making_active model p here.routes.now.lists here.valid _ c.args.touched.first most q.gap))

pub returns-in_default : goal.returns-in_default
returns-in_default c =
    let here = c.args.self.now in
    let model = here.weights.closed.model.now in
    let p = counted here.weights.penalties.now in
    let o = c.saved_by_lists.ensures in
    let same : to_z w128 (of_z w128 c.saved_by_lists.result) ≡ c.saved_by_lists.result = omega (arith, ints, o.low, o.high) in
    record {
      low = omega (arith, ints, same, o.low);
      high = omega (arith, ints, same, o.high);
      most = subst (SavesAtMost model p here.routes.now.lists c.args.mv) (sym same)
          (run_saved model here.weights.closed.well_formed p here.weights.few here.routes.now.lists
          here.valid c.args.mv c.args.touched c.requires.found c.saved_by_lists.result o.most);
    }

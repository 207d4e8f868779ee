use Rattle.std.proofs.Common.{◌≡◌, to_z, of_z, arith}
use Rattle.std.specs.Int.{w128}
use Rattle.std.specs.Prelude.{◌+ℤ◌}
use Rattle.std.proofs.lemmas.Int.{ints}
use Rattle.vr_model.specs.routes.Routes.{route}
use Rattle.vr_guided.specs.Counts.{counted}
use Rattle.vr_guided.proofs.PartLemmas.{unweighed}
use Rattle.vr_guided.proofs.SavingLemmas.{none_touched, one_touched, two_touched}
use Rattle.vr_guided.proofs.changing.WeighedRoutes.saved_by_lists.Goals as goal

pub returns-then-not-is_any-clause-most : goal.returns-then-not-is_any-clause-most
returns-then-not-is_any-clause-most c =
    let m = c.args.self.now.weights.closed.model.now in
    let p = counted c.args.self.now.weights.penalties.now in
    let lists = c.args.self.now.routes.now.lists in
    let none = c.is_any.ensures c.if-not-is_any.true in
    none_touched m p lists c.args.touched (unweighed m p c.args.touched.first (route lists c.args.touched.first) none)
    (unweighed m p c.args.touched.second (route lists c.args.touched.second) none)

pub returns-then-touched-clause-most : goal.returns-then-touched-clause-most
returns-then-touched-clause-most c =
    let o = c.saved_by_list-first.ensures in
    let same : to_z w128 (of_z w128 c.saved_by_list-first.result) ≡ c.saved_by_list-first.result = omega (arith, ints, o.low, o.high) in
    let weight = one_touched c.args.self.now.weights.closed.model.now (counted c.args.self.now.weights.penalties.now)
    c.args.self.now.routes.now.lists c.args.touched c.if-touched.true in
    let most = o.most in
    omega (arith, ints, same, weight, most)

pub returns-clause-most : goal.returns-clause-most
returns-clause-most c =
    let o = c.saved_by_list-first.ensures in
    let q = c.saved_by_list.ensures in
    let same : to_z w128 (of_z w128 (to_z w128 (of_z w128 c.saved_by_list-first.result) +ℤ to_z w128 (of_z w128 c.saved_by_list.result)))
    ≡ c.saved_by_list-first.result +ℤ c.saved_by_list.result
    = omega (arith, ints, o.low, o.high, q.low, q.high) in
    let weight = two_touched c.args.self.now.weights.closed.model.now (counted c.args.self.now.weights.penalties.now)
    c.args.self.now.routes.now.lists c.args.touched c.if-touched.false in
    let most = o.most in
    let most_w = q.most in
    omega (arith, ints, same, weight, most, most_w)

use Rattle.std.proofs.Common.{◌≡◌, ◌∙◌, ◌+◌, ◌<◌, ◌++◌, ◌∷◌, [], List, ℕ, length, take, slice_index_or, ap, ap₂, sym, subst, to_z, of_z, arith}
use Rattle.std.specs.Int.{w128}
use Rattle.std.proofs.lemmas.Int.{ints}
use Rattle.std.proofs.lemmas.List.{take_all, take_more}
use Rattle.vr_model.specs.tables.Tables.{vehicle_at}
use Rattle.vr_guided.specs.Counts.{counted}
use Rattle.vr_guided.specs.Sums.{AreArcSums, weight_by}
use Rattle.vr_balance.specs.Sums.{last_of}
use Rattle.vr_guided.proofs.LocalChanges.{last_behind}
use Rattle.vr_guided.proofs.SumLemmas.{sums-begin, sums-push}
use Rattle.vr_guided.proofs.sums.Sums.write.Goals as goal

pub loop-node-init : goal.loop-node-init
loop-node-init c =
    let arcs = c.args.list.now.arcs in
    let f = weight_by arcs.weights.closed.model.now (counted arcs.weights.penalties.now) c.args.back in
    let start = (vehicle_at arcs.weights.closed.model.now arcs.vehicle).start in
    record {
      sums = subst (AreArcSums f arcs.vehicle start []) (sym c.begin.ensures) (sums-begin f arcs.vehicle start);
      at = c.ends-ends.ensures.start;
      below = c.ends-ends.ensures.start_below;
    }

pub loop-node-preserved : goal.loop-node-preserved
loop-node-preserved c =
    let f = weight_by c.args.list.now.arcs.weights.closed.model.now (counted c.args.list.now.arcs.weights.penalties.now) c.args.back in
    let inv = c.loop-node.invariant in
    let k = c.loop-node.node-index in
    let list : List ℕ = c.args.list.now.nodes.now in
    let low : k < length list = c.loop-node-test.true in
    let node = slice_index_or list k 0 in
    let start = (vehicle_at c.args.list.now.arcs.weights.closed.model.now c.args.list.now.arcs.vehicle).start in
    let more : take (k + 1) list ≡ take k list ++ node ∷ [] = take_more list k 0 low in
    let w_low = c.weight_by.ensures.range.at_least in
    let w_high = c.weight_by.ensures.range.at_most in
    let same : to_z w128 (of_z w128 c.weight_by.result) ≡ c.weight_by.result = omega (arith, ints, w_low, w_high) in
    let weight = same ∙ (c.weight_by.ensures.value ∙ ap (λ x. f (record { vehicle = c.args.list.now.arcs.vehicle; origin = x; target = node })) inv.at) in
    record {
      sums = subst (λ xs. AreArcSums f c.args.list.now.arcs.vehicle start xs c.add.new.self) (sym more)
          (sums-push f c.args.list.now.arcs.vehicle start (take k list) node c.loop-node.self c.add.new.self _ inv.sums weight c.add.ensures);
      at = sym (last_behind start node (take k list)) ∙ ap (last_of start) (sym more);
      below = c.args.list.now.few.below k 0 low;
    }

pub returns : goal.returns
returns c =
    let f = weight_by c.args.list.now.arcs.weights.closed.model.now (counted c.args.list.now.arcs.weights.penalties.now) c.args.back in
    let inv = c.loop-node.invariant in
    let list : List ℕ = c.args.list.now.nodes.now in
    let arcs = c.args.list.now.arcs in
    let ends = vehicle_at arcs.weights.closed.model.now arcs.vehicle in
    let w_low = c.weight_by-2.ensures.range.at_least in
    let w_high = c.weight_by-2.ensures.range.at_most in
    let same : to_z w128 (of_z w128 c.weight_by-2.result) ≡ c.weight_by-2.result = omega (arith, ints, w_low, w_high) in
    let weight = same
    ∙ (c.weight_by-2.ensures.value ∙ ap₂ (λ x y. f (record { vehicle = arcs.vehicle; origin = x; target = y })) inv.at c.ends-ends.ensures.end) in
    let all : take c.loop-node.node-index list ≡ list = take_all c.loop-node.node-index list
    (let last = c.loop-node.auto.node-index-end in omega (arith, last, c.loop-node-test.false)) in
    let whole = sums-push f arcs.vehicle ends.start (take c.loop-node.node-index list)
    ends.end c.loop-node.self c.add-2.new.self _ inv.sums weight c.add-2.ensures in
    subst (λ xs. AreArcSums f arcs.vehicle ends.start (xs ++ ends.end ∷ []) c.add-2.new.self) all whole

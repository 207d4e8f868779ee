use Rattle.std.proofs.Common.{◌≡◌, ◌∙◌, ◌+◌, ◌-◌, ◌<◌, ◌++◌, ◌∷◌, [], List, ℕ, length, take, drop, ap, ap₂, sym, subst, arith}
use Rattle.std.specs.Prelude.{◌-ℤ◌, All, slice_range}
use Rattle.std.proofs.lemmas.Int.{ints}
use Rattle.vr_model.specs.routes.Routes.{route}
use Rattle.vr_model.specs.tables.Tables.{vehicle_at}
use Rattle.vr_routes.specs.Pieces.{joined, part_at}
use Rattle.vr_guided.specs.Counts.{counted}
use Rattle.vr_guided.specs.Walks.{route_weight, stretch_weight, unused_weight}
use Rattle.vr_balance.specs.Sums.{last_of}
use Rattle.vr_routes.proofs.JoinedPieces.{all_left, all_right}
use Rattle.vr_guided.proofs.PartLemmas.{as_read, new_length, part_value}
use Rattle.vr_guided.proofs.changing.WeighedChange.change_of_part.Goals as goal

pub new_stretch-new-requires-clause-start : goal.new_stretch-new-requires-clause-start
new_stretch-new-requires-clause-start c =
    let it = c.args.self.now.of in
    let part = c.splice-splice.ensures.part in
    c.node_before-start.ensures.below it.weights.closed.model.now.nodes c.ends-own.ensures.start_below
    (subst (λ xs. All (λ node. node < it.weights.closed.model.now.nodes) xs) (sym c.list-list.ensures.value) part.old_nodes)

pub new_stretch-new-requires-clause-next : goal.new_stretch-new-requires-clause-next
new_stretch-new-requires-clause-next c =
    let it = c.args.self.now.of in
    let part = c.splice-splice.ensures.part in
    c.node_from-next.ensures.below it.weights.closed.model.now.nodes c.ends-own.ensures.end_below
    (subst (λ xs. All (λ node. node < it.weights.closed.model.now.nodes) xs) (sym c.list-list.ensures.value) part.old_nodes)

pub new_stretch-new-requires-clause-pieces : goal.new_stretch-new-requires-clause-pieces
new_stretch-new-requires-clause-pieces c =
    let it = c.args.self.now.of in
    let n = it.weights.closed.model.now.nodes in
    let lists = it.routes.now.lists in
    let splice = c.splice-splice in
    let part = splice.ensures.part in
    let list : List ℕ = route lists splice.result.vehicle in
    let middle : List ℕ = joined lists splice.result.middle.now in
    record {
      within = splice.ensures.ends.within;
      nodes = all_left (λ node. node < n) middle (drop splice.result.behind list)
          (all_right (λ node. node < n) (take splice.result.front list) (middle ++ drop splice.result.behind list)
          (subst (λ xs. All (λ node. node < n) xs) splice.ensures.ends.joins part.nodes));
    }

pub returns-clause-range : goal.returns-clause-range
returns-clause-range c =
    let n = c.new_stretch-new.ensures in
    let o = c.old_stretch-old.ensures in
    let same = as_read c.new_stretch-new.result.total c.old_stretch-old.result c.unused.result c.unused-2.result n.low
    n.high o.low o.high c.unused.ensures.low c.unused.ensures.high c.unused-2.ensures.low c.unused-2.ensures.high in
    record {
      at_least =
          omega (arith, ints, same, n.low, n.high, o.low, o.high, c.unused.ensures.low, c.unused.ensures.high, c.unused-2.ensures.low, c.unused-2.ensures.high);
      at_most =
          omega (arith, ints, same, n.low, n.high, o.low, o.high, c.unused.ensures.low, c.unused.ensures.high, c.unused-2.ensures.low, c.unused-2.ensures.high);
    }

pub returns-clause-value : goal.returns-clause-value
returns-clause-value c =
    let it = c.args.self.now.of in
    let m = it.weights.closed.model.now in
    let p = counted it.weights.penalties.now in
    let lists = it.routes.now.lists in
    let splice = c.splice-splice in
    let part = splice.ensures.part in
    let v = splice.result.vehicle in
    let list : List ℕ = route lists v in
    let pieces = (part_at c.args.self.now.change.now c.args.k).pieces in
    let front = splice.result.front in
    let behind = splice.result.behind in
    let middle : List ℕ = joined lists splice.result.middle.now in
    let next = c.node_from-next.result in
    let n = c.new_stretch-new.ensures in
    let o = c.old_stretch-old.ensures in
    let same = as_read c.new_stretch-new.result.total c.old_stretch-old.result c.unused.result c.unused-2.result n.low
    n.high o.low o.high c.unused.ensures.low c.unused.ensures.high c.unused-2.ensures.low c.unused-2.ensures.high in
    let start_is : c.node_before-start.result ≡ last_of (vehicle_at m v).start (take front list) = c.node_before-start.ensures.node
    ∙ ap₂ (λ s xs. last_of s (take front xs)) c.ends-own.ensures.start c.list-list.ensures.value in
    let new_is : c.new_stretch-new.result.total ≡ stretch_weight m p v (last_of (vehicle_at m v).start (take front list)) middle next = n.total
    ∙ ap (λ s. stretch_weight m p v s middle next) start_is in
    let before : c.unused.result ≡ unused_weight m p v (length list) = c.unused.ensures.value
    ∙ ap (unused_weight m p v) (ap length c.list-list.ensures.value) in
    let after_len : front + c.new_stretch-new.result.nodes + (length c.list-list.result.now - behind) ≡ length (joined lists pieces)
    = ap₂ (λ k l. front + k + (l - behind)) n.nodes (ap length c.list-list.ensures.value)
    ∙ sym (new_length lists v pieces splice.result.middle.now front behind splice.ensures.ends) in
    let after : c.unused-2.result ≡ unused_weight m p v (length (joined lists pieces)) = c.unused-2.ensures.value ∙ ap (unused_weight m p v) after_len in
    let first = ap₂ (λ xs e. drop behind xs ++ e ∷ []) (sym c.list-list.ensures.value) (sym c.ends-own.ensures.end) ∙ c.node_from-next.ensures.node.first in
    let old_is : c.old_stretch-old.result ≡ stretch_weight m p v (last_of (vehicle_at m v).start (take front list)) (slice_range list front behind) next =
    o.total next c.node_from-next.ensures.node.others first in
    let there = ap (λ u. route_weight m p u (joined lists pieces) -ℤ route_weight m p u (route lists u)) splice.ensures.vehicle in
    same ∙ (ap₂ (λ x y. x -ℤ y) (ap₂ (λ x y. x -ℤ y) new_is after) (ap₂ (λ x y. x -ℤ y) old_is before)
    ∙ (sym (part_value m p v lists pieces splice.result.middle.now front behind next c.node_from-next.ensures.node.others splice.ensures.ends first) ∙ there))

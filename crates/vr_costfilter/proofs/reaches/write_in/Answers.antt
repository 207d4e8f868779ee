use Rattle.std.proofs.Common.{◌<◌, ℕ, List, [], length, refl, sym, subst, arith}
use Rattle.std.specs.Prelude.{slice_index_or}
use Rattle.std.proofs.lemmas.List.{take_all}
use Rattle.vr_model.specs.moves.Moves.{with_route}
use Rattle.vr_model.specs.routes.Routes.{route}
use Rattle.vr_model.proofs.routes.Lists.{route_set_other, route_set_same}
use Rattle.vr_routes.specs.Pieces.{joined, part_at, with_parts}
use Rattle.vr_costfilter.specs.SortedEnds.{AreOrders, IsTimedIfUsed}
use Rattle.vr_costfilter.proofs.GlobalLemmas.{told-ranged}
use Rattle.vr_costfilter.proofs.OrdersLemmas.{orders-room, orders-set, used-known}
use Rattle.vr_parts.proofs.SumLemmas.{upto, upto-many}
use Rattle.vr_earliest.proofs.WritingLemmas.{upto-put, upto-within}
use Rattle.vr_costfilter.specs.GlobalCosts.{timing_in}
use Rattle.vr_costfilter.proofs.reaches.write_in.Goals as goal

pub set-requires-clause-range : goal.set-requires-clause-range
set-requires-clause-range c =
    let lists : List (List ℕ) = c.requires.1 in
    let part = part_at c.args.change.now c.loop-k.k in
    let low : c.loop-k.k < length c.args.change.now = omega (arith, c.loop-k-test.true, c.parts-k-end.ensures.value) in
    told-ranged c.requires.0 c.args.d part.vehicle (joined lists part.pieces)
    (timing_in c.args.d (slice_index_or c.args.next.now c.loop-k.k [])) (c.requires.2.told c.loop-k.k low)

pub set-requires-clause-room : goal.set-requires-clause-room
set-requires-clause-room c =
    let m = c.requires.0 in
    let lists : List (List ℕ) = c.requires.1 in
    let are = c.requires.2 in
    let base : List (List ℕ) = upto lists c.args.change.now c.loop-k.k in
    let all = upto-many lists c.args.change.now c.loop-k.k in
    orders-room m c.args.d base c.loop-k.out (c.loop-k.invariant m lists are) c.vehicle.result (length base) (λ u used. used-known base u used)
    (upto-within lists c.args.change.now are.parts_are c.loop-k.k (omega (arith, c.loop-k-test.true, c.parts-k-end.ensures.value)) c.vehicle.ensures)
    (omega (arith, are.few, all))

pub loop-k-init : goal.loop-k-init
loop-k-init c model lists are = subst (AreOrders model c.args.d lists) (sym c.copy_from.ensures) are.orders_are

pub loop-k-preserved : goal.loop-k-preserved
loop-k-preserved c model lists are =
    let d = c.args.d in
    let parts = c.args.change.now in
    let k = c.loop-k.k in
    let base : List (List ℕ) = upto lists parts k in
    let low : k < length parts = omega (arith, c.loop-k-test.true, c.parts-k-end.ensures.value) in
    let vehicle = c.vehicle.ensures in
    let v = c.vehicle.result in
    let list : List ℕ = joined lists (part_at parts k).pieces in
    let row = timing_in d (slice_index_or c.args.next.now k []) in
    let told : IsTimedIfUsed model d v (route (with_route base v list) v) row =
    subst (λ l. IsTimedIfUsed model d v l row) (sym (route_set_same base v list (upto-within lists parts are.parts_are k low vehicle)))
    (subst (λ w. IsTimedIfUsed model d w list row) (sym vehicle) (are.told k low)) in
    let set = orders-set model d base c.loop-k.out (c.loop-k.invariant model lists are) v
    (with_route base v list) (λ u apart. route_set_other base v u list apart) row told in
    subst (λ ls. AreOrders model d ls c.set.new.self) (upto-put lists parts k low vehicle refl)
    (subst (AreOrders model d (with_route base v list)) (sym c.set.ensures) set)

pub returns : goal.returns
returns c model lists are =
    let all = take_all c.loop-k.k c.args.change.now (omega (arith, c.parts-k-end.ensures.value, c.loop-k-test.false)) in
    subst (λ parts. AreOrders model c.args.d (with_parts lists parts lists) c.loop-k.out) all (c.loop-k.invariant model lists are)

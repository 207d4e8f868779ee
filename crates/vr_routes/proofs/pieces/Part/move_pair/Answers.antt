use Rattle.std.proofs.Common.{◌-◌, ◌+◌, ◌≡◌, ℕ, List, subst, arith}
use Rattle.vr_model.specs.routes.Routes.{route}
use Rattle.vr_routes.specs.Changes.{IsAfter}
use Rattle.vr_routes.proofs.RestLemmas.{pair_among, few_between, few_to_end}
use Rattle.vr_routes.proofs.pieces.Part.move_pair.Goals as goal

pub add_rest-requires-3-clause-room : goal.add_rest-requires-3-clause-room
add_rest-requires-3-clause-room c =
    few_to_end c.args.at.pickup c.args.at.delivery c.args.s c.args.t c.least-front.result c.greatest-behind.result
    c.requires.two.order c.requires.places c.least-front.ensures c.greatest-behind.ensures
    _ _ _ _ _ c.begin.ensures.room c.add_rest.ensures.room c.node.ensures.room c.add_rest-2.ensures.room c.node-2.ensures.room

pub end-requires-clause-room : goal.end-requires-clause-room
end-requires-clause-room c =
    few_between c.args.at.pickup c.args.at.delivery c.args.s c.args.t c.least-front.result c.greatest-behind.result
    c.requires.two.order c.requires.places c.least-front.ensures c.greatest-behind.ensures
    _ _ _ _ _ c.begin.ensures.room c.add_rest.ensures.room c.node.ensures.room c.add_rest-2.ensures.room c.node-2.ensures.room _ c.add_rest-3.ensures.room

pub returns : goal.returns
returns c =
    let at = c.args.at in
    let two = c.requires.two in
    let lists : List (List ℕ) = c.args.routes.now.lists in
    let v = at.vehicle in
    let s = c.args.s in
    let t = c.args.t in
    let n = c.len-n.ensures.value in
    let front = c.least-front.result in
    let behind = c.greatest-behind.result in
    let at_front : front ≡ at.pickup - (at.pickup - s) = c.least-front.ensures in
    let at_end : behind ≡ (at.delivery - 1) + (t - (at.delivery - 1)) = c.greatest-behind.ensures in
    let s1 = c.add_rest.ensures.after lists v front _ two (omega (arith, c.requires.gap, c.requires.places)) (c.begin.ensures.after lists) in
    let s2 = c.node.ensures.after lists v front _ s1 in
    let s3 = c.add_rest-2.ensures.after lists v front _ two c.requires.gap s2 in
    let s4 = c.node-2.ensures.after lists v front _ s3 in
    let s5 = c.add_rest-3.ensures.after lists v front _ two (omega (arith, at_end, two.place, two.order, c.requires.gap)) s4 in
    let s6 = c.end.ensures lists v front _ two.vehicle n (omega (arith, at_front, at_end, two.order)) s5 in
    subst (IsAfter lists c.end.new.self v)
    (pair_among (route lists v) at.pickup at.delivery s t front behind c.args.pair.pickup
    c.args.pair.delivery two.order two.place c.requires.places at_front at_end) s6

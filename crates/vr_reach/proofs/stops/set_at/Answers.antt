use Rattle.std.proofs.Common.{◌<◌, ◌≤◌, ◌-◌, [], length, get_or, ap, ◌∙◌, arith}
use Rattle.std.proofs.lemmas.List.{get_or_default}
use Rattle.vr_steps.proofs.LineLemmas.{visit_below}
use Rattle.vr_reach.proofs.LineParts.{visit_allows}
use Rattle.vr_reach.proofs.stops.set_at.Goals as goal

pub returns : goal.returns
returns c =
    let stops = c.args.stops.now in
    let of = stops.of in
    let list = of.list.now in
    let sets = stops.visits.now in
    let node = c.get.ensures in
    let some = c.if-k-eq0.false in
    let tour = of.used.tour in
    let within : c.args.k ≤ length list = omega (arith, c.if-k-len.false, c.len.ensures.value) in
    let low : c.get.result < length sets = (let n = stops.sets_are.long in
    let h = visit_below of.closed.model.now list (c.args.k - 1) 0 tour.visits (omega (arith, some, within)) in omega (arith, n, h, node)) in
    visit_allows of.closed.model.now of.d of.v list c.args.k sets
    (get_or sets c.get.result c.index-stops-get.result) stops.sets_are tour (omega (arith, some)) within
    (get_or_default sets c.get.result c.index-stops-get.result [] low ∙ ap (λ i. get_or sets i []) node)

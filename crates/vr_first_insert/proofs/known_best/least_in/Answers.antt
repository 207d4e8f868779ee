use Rattle.std.proofs.Common.{◌≡◌, rules, subst, sym, to_z, of_z, w64}
use Rattle.vr_first_insert.specs.Kept.{AddsAtLeast}
use Rattle.vr_first_insert.proofs.known_best.least_in.Goals as goal

pub returns-in-PickupAndDelivery : goal.returns-in-PickupAndDelivery
returns-in-PickupAndDelivery c =
    let model = c.args.of.now.list.lookups.now.closed.model.now in
    let v = c.args.of.now.list.vehicle in
    let list = c.args.of.now.list.nodes.now in
    let fits : to_z w64 (of_z w64 c.least_pair.result) ≡ c.least_pair.result = search rules in
    subst (AddsAtLeast model v list c.args.of.now.candidate.item) (sym fits)
    (subst (λ item. AddsAtLeast model v list item c.least_pair.result) (sym c.in-PickupAndDelivery.is) c.least_pair.ensures)

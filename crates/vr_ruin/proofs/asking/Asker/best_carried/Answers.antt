use Rattle.std.proofs.Common.{◌∙◌, ap, sym}
use Rattle.std.specs.Prelude.{None}
use Rattle.vr_ruin.specs.Placings.{best_of, no_more_than, placings_of}
use Rattle.vr_ruin.proofs.asking.Asker.best_carried.Goals as goal

pub returns-in_ok-best-in-PickupAndDelivery-clause-best : goal.returns-in_ok-best-in-PickupAndDelivery-clause-best
returns-in_ok-best-in-PickupAndDelivery-clause-best c =
    let list = c.args.list.nodes.now in
    c.within_limit.ensures ∙ ap (no_more_than c.args.limit)
    (c.in_ok-best-in-PickupAndDelivery.ensures.best
    ∙ ap (λ item. best_of c.args.self.now c.args.list.vehicle list None (placings_of list item)) (sym c.in-PickupAndDelivery.is))

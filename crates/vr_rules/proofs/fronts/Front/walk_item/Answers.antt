use Rattle.std.proofs.Common.{◌≡◌, ◌∙◌, ◌++◌, ◌∷◌, [], true, append_assoc, ap, sym, subst}
use Rattle.std.specs.List.{list_all}
use Rattle.std.proofs.lemmas.Result.{on_ok_weaker}
use Rattle.vr_model.specs.tables.Tables.{is_visit, vehicle_at}
use Rattle.vr_model.specs.deciding.Testing.{and_left, and_right}
use Rattle.vr_steps.specs.Lines.{hop_between}
use Rattle.vr_rules.specs.Fronts.{AreReachedBehind}
use Rattle.vr_rules.specs.Placing.{item_nodes}
use Rattle.vr_rules.proofs.FrontLemmas.{behind_visit, last_behind, to_visit, visit_set_at}
use Rattle.vr_rules.proofs.fronts.Front.walk_item.Goals.{In_ok-leave-in-PickupAndDelivery}
use Rattle.vr_rules.proofs.fronts.Front.walk_item.Goals as goal

-- the delivery is a visit
delivered : (c : In_ok-leave-in-PickupAndDelivery) → is_visit c.args.longer.now.closed.model.now c.in-PickupAndDelivery.delivery ≡ true
delivered c =
    let P = is_visit c.args.longer.now.closed.model.now in
    let both : list_all P (c.in-PickupAndDelivery.pickup ∷ c.in-PickupAndDelivery.delivery ∷ []) ≡ true =
    subst (λ item. list_all P (item_nodes item) ≡ true) c.in-PickupAndDelivery.is c.args.longer.now.item_visits in
    and_left (P c.in-PickupAndDelivery.delivery) true (and_right (P c.in-PickupAndDelivery.pickup) _ both)

pub cross-requires : goal.cross-requires
cross-requires c =
    to_visit c.args.longer.now.closed.model.now c.args.longer.now.list.now c.args.self.now c.requires c.leave-in-PickupAndDelivery.new.walk
    c.hop-arc.result c.in-PickupAndDelivery.delivery c.index-next.result.now c.in_ok-leave-in-PickupAndDelivery.ensures.levels
    c.hop-arc.ensures.sound c.index-next.ensures (delivered (goal.at.cross-requires c).In_ok-leave-in-PickupAndDelivery)

pub returns-in_ok-leave-in-PickupAndDelivery-clause-reached : goal.returns-in_ok-leave-in-PickupAndDelivery-clause-reached
returns-in_ok-leave-in-PickupAndDelivery-clause-reached c =
    let longer = c.args.longer.now in
    let model = longer.closed.model.now in
    let d = c.args.self.now.dimension in
    let v = c.args.self.now.vehicle in
    let pickup = c.in-PickupAndDelivery.pickup in
    let delivery = c.in-PickupAndDelivery.delivery in
    let before = longer.list.now ++ pickup ∷ [] in
    let front = c.requires in
    let set = visit_set_at model d v _ front.visits delivery c.index-next.result.now c.index-next.ensures
    (delivered (goal.at.returns-in_ok-leave-in-PickupAndDelivery-clause-reached c).In_ok-leave-in-PickupAndDelivery) in
    let arc = c.hop-arc.ensures.exact
    ∙ ap (λ origin. hop_between model d v origin delivery) (sym (last_behind (vehicle_at model v).start longer.list.now (pickup ∷ []))) in
    let whole = append_assoc longer.list.now (pickup ∷ []) (delivery ∷ []) ∙ ap (λ item. longer.list.now ++ item_nodes item) (sym c.in-PickupAndDelivery.is) in
    on_ok_weaker _ (λ exact. subst (λ list. AreReachedBehind model d v list c.cross.new.self) whole
    (behind_visit model longer.closed.well_formed d v front.dimension front.vehicle before
    c.leave-in-PickupAndDelivery.new.walk c.cross.new.self c.hop-arc.result c.index-next.result.now
    c.args.self.now.breaks c.in_ok-leave-in-PickupAndDelivery.ensures.reached front.breaks exact delivery arc set)) c.cross.ensures.exact

use Rattle.std.proofs.Common.{List, sym, ap, ap₂, ◌∙◌}
use Rattle.std.specs.List.{list_all}
use Rattle.vr_model.specs.tables.Tables.{no_vehicle, vehicle_at}
use Rattle.vr_model.specs.routes.Rules.{pairs_in}
use Rattle.vr_model.specs.declared.records.Policy.{Policy}
use Rattle.vr_check.specs.Terms.{is_in_order}
use Rattle.vr_check.specs.declared.pairs.PlacesOfPair.{PlacesOfPair}
use Rattle.vr_check.proofs.Walks.{policy_by_places}
use Rattle.vr_check.proofs.pairs.keeps_policy.Goals as goal

pub returns : goal.returns
returns c =
    let all = λ (policy : Policy) (places : List PlacesOfPair). list_all (is_in_order policy places) places in
    c.all_in_order.ensures
    ∙ ap₂ all (sym (ap (λ vehicle. vehicle.policy) (c.get.ensures.value no_vehicle))) (c.as_slice.ensures ∙ c.in_ok-places.ensures)
    ∙ policy_by_places (vehicle_at c.args.closed.model.now c.args.v).policy c.args.list.now (pairs_in c.args.closed.model.now c.args.list.now)

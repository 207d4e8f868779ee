use Rattle.std.proofs.Common.{◌≡◌, ◌∙◌, ap, ap₂, sym, arith}
use Rattle.std.specs.Prelude.{◌&&◌}
use Rattle.std.specs.List.{list_all}
use Rattle.vr_model.specs.tables.Tables.{no_vehicle, vehicle_at}
use Rattle.vr_model.specs.routes.Rules.{keeps_policy}
use Rattle.vr_lists.specs.Pairs.{allows_beside, served_in}
use Rattle.vr_lists.proofs.VisitLists.{visits-few}
use Rattle.vr_lists.proofs.PlaceLemmas.{keeps-any, keeps_policy-places}
use Rattle.vr_lists.proofs.pairs.keeps_pairs.Goals as goal

pub write_places-requires-clause-few : goal.write_places-requires-clause-few
write_places-requires-clause-few c =
    omega (arith, visits-few c.args.model.now c.args.list.now c.requires.visits c.requires.distinct, c.requires.well_formed.number_of_nodes.1)

pub returns-then-asks_nothing : goal.returns-then-asks_nothing
returns-then-asks_nothing c =
    let model = c.args.model.now in
    let v = c.args.v in
    let policy = ap (λ vehicle. vehicle.policy) (c.get.ensures.value no_vehicle) ∙ c.asks_nothing.ensures.0 c.if-asks_nothing.true in
    c.if-asks_nothing.true ∙ sym (ap₂ (λ a b. a && b) (sym c.serves_all.ensures ∙ c.if-not-serves_all.false) (keeps-any model v c.args.list.now policy))

pub returns-else-asks_nothing : goal.returns-else-asks_nothing
returns-else-asks_nothing c =
    let model = c.args.model.now in
    let list = c.args.list.now in
    let policy : c.get.result.now.policy ≡ (vehicle_at model c.args.v).policy = ap (λ vehicle. vehicle.policy) (sym (c.get.ensures.value no_vehicle)) in
    c.allows_pairs.ensures ∙ ap (λ p. list_all (allows_beside p (served_in list model.pairs)) (served_in list model.pairs)) policy
    ∙ keeps_policy-places model c.args.v list
    ∙ ap (λ b. b && keeps_policy model c.args.v list) (sym c.if-not-serves_all.false ∙ c.serves_all.ensures)

use Rattle.std.proofs.Common.{◌∙◌, ap, sym}
use Rattle.std.specs.List.{list_all}
use Rattle.vr_model.specs.routes.Rules.{allows_vehicle}
use Rattle.vr_rules.specs.Placing.{item_nodes}
use Rattle.vr_first_insert.proofs.KeptLemmas.{item-closed}
use Rattle.vr_first_insert.proofs.one_list.best_in_list.Goals as goal

pub returns-then-not-allows_item : goal.returns-then-not-allows_item
returns-then-not-allows_item c =
    let of_model = ap (λ model. list_all (allows_vehicle model c.args.of.now.list.vehicle) (item_nodes c.args.of.now.candidate.item)) c.nodes.ensures in
    item-closed c.args.of.now.list.lookups.now.closed.model.now c.args.of.now.list.vehicle c.args.of.now.list.nodes.now
    c.args.of.now.candidate c.args.best c.requires.stands (sym of_model ∙ sym c.allows_item.ensures ∙ c.if-not-allows_item.true)

pub best_where_allowed-requires-clause-allowed : goal.best_where_allowed-requires-clause-allowed
best_where_allowed-requires-clause-allowed c =
    let of_model = ap (λ model. list_all (allows_vehicle model c.args.of.now.list.vehicle) (item_nodes c.args.of.now.candidate.item)) c.nodes.ensures in
    sym of_model ∙ sym c.allows_item.ensures ∙ c.if-not-allows_item.false

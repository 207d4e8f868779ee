use Rattle.std.proofs.Common.{◌≡◌, ◌∙◌, ap, subst, sym}
use Rattle.std.specs.List.{list_all}
use Rattle.std.specs.Prelude.{IfOk}
use Rattle.vr_model.specs.routes.Rules.{allows_vehicle}
use Rattle.vr_rules.specs.Placing.{item_nodes}
use Rattle.vr_rules.proofs.FrontLemmas.{closed_by_dimension, closed_by_vehicle, open_by_pairs, visits_after, visits_before}
use Rattle.vr_rules.proofs.fronts.Fronts.may_append.Goals as goal

pub invariant_of-longer : goal.invariant_of-longer
invariant_of-longer c =
    let model = c.args.lookups.now.closed.model.now in
    let nodes = item_nodes c.args.item in
    record {
      visits = visits_before model c.args.list.now nodes c.requires.driven.visits;
      item_visits = visits_after model c.args.list.now nodes c.requires.driven.visits;
    }

pub returns-then-not-allows_item : goal.returns-then-not-allows_item
returns-then-not-allows_item c =
    let of_model = ap (λ model. list_all (allows_vehicle model c.args.v) (item_nodes c.args.item)) c.nodes.ensures in
    sym (closed_by_vehicle c.args.lookups.now.closed.model.now c.args.v c.args.list.now (item_nodes c.args.item)
    c.requires.stands c.requires.driven.some (sym of_model ∙ sym c.allows_item.ensures ∙ c.if-not-allows_item.true))

pub returns-then-not-branch : goal.returns-then-not-branch
returns-then-not-branch c =
    sym (closed_by_dimension c.args.lookups.now.closed.model.now c.args.v c.args.list.now (item_nodes c.args.item)
    c.requires.stands c.requires.driven.some (sym c.in_ok-is_feasible_with.ensures ∙ c.if-not-branch.true))

pub returns : goal.returns
returns c =
    let of_model = ap (λ model. list_all (allows_vehicle model c.args.v) (item_nodes c.args.item)) c.nodes.ensures in
    let same =
    sym (open_by_pairs c.args.lookups.now.closed.model.now c.args.v c.args.list.now (item_nodes c.args.item) c.requires.stands c.requires.driven.some
    (sym of_model ∙ sym c.allows_item.ensures ∙ c.if-not-allows_item.false) (sym c.in_ok-is_feasible_with.ensures ∙ c.if-not-branch.false)) in
    subst (λ y. IfOk c.keeps_pairs_with.result (λ may. may ≡ y)) same c.keeps_pairs_with.ensures

use Rattle.std.proofs.Common.{◌≡◌, ◌∙◌, ap, sym, subst}
use Rattle.std.specs.List.{list_all}
use Rattle.vr_model.specs.tables.Tables.{is_visit}
use Rattle.vr_model.specs.routes.Routes.{is_distinct, route}
use Rattle.vr_model.specs.routes.Rules.{is_route_open}
use Rattle.vr_model.specs.moves.Moves.{with_route}
use Rattle.vr_rules.specs.Placing.{AreBuilt}
use Rattle.vr_strings.specs.Strings.{left_of_list}
use Rattle.vr_ruin.proofs.TrialLemmas.{cut_built, either_way, left_distinct, left_over, left_visits, may_write_once, may_write_visits}
use Rattle.vr_ruin.proofs.trial.cut_list.Goals.{After-as_slice, After-as_slice-2}
use Rattle.vr_ruin.proofs.trial.cut_list.Goals as goal

-- what is written is what is left
left_is : (c : After-as_slice)
    → c.as_slice.result.now ≡ left_over c.args.asker.now c.args.routes.now.lists c.args.v c.args.string c.requires.built c.requires.vehicle
left_is c = c.as_slice.ensures.value ∙ c.write_left.ensures
    ∙ ap (λ model. left_of_list model (route c.args.routes.now.lists c.args.v) c.args.string) c.nodes.ensures

pub is_open-requires-clause-visits : goal.is_open-requires-clause-visits
is_open-requires-clause-visits c =
    let at = (goal.at.is_open-requires-clause-visits c).After-as_slice in
    ap (list_all (is_visit c.args.asker.now)) (left_is at)
    ∙ left_visits c.args.asker.now c.args.routes.now.lists c.args.v c.args.string c.requires.built c.requires.vehicle

pub is_open-requires-clause-distinct : goal.is_open-requires-clause-distinct
is_open-requires-clause-distinct c =
    let at = (goal.at.is_open-requires-clause-distinct c).After-as_slice in
    ap is_distinct (left_is at) ∙ left_distinct c.args.asker.now c.args.routes.now.lists c.args.v c.args.string c.requires.built c.requires.vehicle

-- it is open, and so are the lists with it
opened : (c : After-as_slice-2) → AreBuilt c.args.asker.now (with_route c.args.routes.now.lists c.args.v c.as_slice-2.result.now)
opened c =
    let model = c.args.asker.now in
    let lists = c.args.routes.now.lists in
    let first = c.as_slice.ensures.value ∙ c.write_left.ensures ∙ ap (λ model. left_of_list model (route lists c.args.v) c.args.string) c.nodes.ensures in
    let second = c.as_slice-2.ensures.value ∙ c.write_left.ensures ∙ ap (λ model. left_of_list model (route lists c.args.v) c.args.string) c.nodes.ensures in
    let opens = ap (is_route_open model c.args.v) (sym first) ∙ sym c.in_ok-is_open.ensures.answer ∙ c.if-not-branch.false in
    subst (λ l. AreBuilt model (with_route lists c.args.v l)) (sym second)
    (cut_built model lists c.args.v c.args.string c.requires.built c.requires.vehicle opens)

pub set_list-requires-clause-visits : goal.set_list-requires-clause-visits
set_list-requires-clause-visits c =
    let at = (goal.at.set_list-requires-clause-visits c).After-as_slice-2 in
    may_write_visits c.args.asker.now (with_route c.args.routes.now.lists c.args.v c.as_slice-2.result.now)
    c.args.routes.now.visits c.requires.visits (opened at)

pub set_list-requires-clause-once : goal.set_list-requires-clause-once
set_list-requires-clause-once c =
    let at = (goal.at.set_list-requires-clause-once c).After-as_slice-2 in
    may_write_once c.args.asker.now (with_route c.args.routes.now.lists c.args.v c.as_slice-2.result.now) (opened at)

pub returns-clause-built : goal.returns-clause-built
returns-clause-built c =
    let at = (goal.at.returns-clause-built c).After-as_slice-2 in
    either_way c.set_list.result c.set_list.ensures.lists c.set_list.ensures.as_before
    (λ same. subst (AreBuilt c.args.asker.now) (sym same) (opened at)) (λ same. subst (AreBuilt c.args.asker.now) (sym same) c.requires.built)
